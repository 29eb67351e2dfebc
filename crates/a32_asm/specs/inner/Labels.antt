-- Only proofs and inner contracts need these words.
-- Labels by their names.
use Rattle.std.specs.Prelude.{ℕ, List, Option, map}
use Rattle.a32_asm.specs.declared.places.LabelPlace.{LabelPlace}
use Rattle.a32_asm.specs.declared.labels.SortedLabels.{SortedLabels}
use Rattle.a32_asm.specs.Layout.{place_in}
use Rattle.a32_asm.specs.inner.Places.{label_at}

-- where the first label of a name stands
abbrev pub place_named : SortedLabels → List ℕ → Option LabelPlace
place_named labels name = place_in (map (label_at labels.text.now) labels.places.items) name
