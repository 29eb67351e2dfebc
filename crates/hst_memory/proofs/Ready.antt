-- A seat that may make a step: which words it steps on, and that it may make the next one.
use Rattle.std.proofs.Common.{◌≡◌, ℕ, ◌/◌, ◌<◌, List, ◌∙◌, arith}
use Rattle.llsc_base.specs.Memory.{cell_of, class_of}
use Rattle.llsc_base.specs.declared.access.Place.{Place}
use Rattle.llsc_base.proofs.Cells.{cell_of-lt, class_of-lt}
use Rattle.history.specs.declared.entry.Entry.{Entry}
use Rattle.atomic_table.specs.Seated.{TableId}
use Rattle.shared_memory.specs.Origin.{Origin}
use Rattle.shared_memory.proofs.Sequences.{single-goes}
use Rattle.hst_memory.specs.declared.hands.Hand.{Hand}
use Rattle.shared_memory.specs.declared.plans.Plan.{Plan}
use Rattle.shared_memory.specs.Layout.{cell_word, tag_word}
use Rattle.shared_memory.specs.inner.Targets.{IsPlace}
use Rattle.hst_memory.specs.Passes.{IsMade}
use Rattle.hst_memory.specs.inner.Passes.{IsReady}
use Rattle.shared_memory.specs.Told.{Goes}
use Rattle.hst_memory.specs.Told.{Mine}

pub cell_word-below : (plan : Plan) (table : TableId) (p : Place) → IsMade plan table → IsPlace plan p → cell_word plan.size (cell_of p) < table.words
cell_word-below plan table p made place =
    let whole = made.whole in
    let sized = made.sized in
    let below : cell_of p < plan.size.mem / 8 = cell_of-lt p (plan.size.mem / 8) (let inside = place.inside in omega arith) in
    omega arith

pub tag_word-below : (plan : Plan) (table : TableId) (row : ℕ) → IsMade plan table → tag_word (class_of plan.size.classes row) < table.words
tag_word-below plan table row made =
    let sized = made.sized in
    let below = class_of-lt plan.size.classes row made.some_class in
    omega arith

pub section-below : (plan : Plan) (table : TableId) → IsMade plan table → 0 < table.words
section-below plan table made = let sized = made.sized in omega arith

-- after a step it may make another
pub ready-goes : (plan : Plan) (table home home' : TableId) (origin : Origin) (old new : Mine) (es : List Entry) (h : Hand)
    → IsReady plan table home old → home' ≡ home → Goes origin old es h new → IsReady plan table home' new
ready-goes plan table home home' origin old new es h ready same goes = record {
  made = ready.made;
  home_is = same ∙ ready.home_is;
  single = single-goes origin old new es h ready.single goes;
}
