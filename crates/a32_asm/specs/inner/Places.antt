-- Only proofs and inner contracts need these words.
-- Places of the labels of a text, by the names that stand there.
use Rattle.std.specs.Prelude.{◌≡◌, ℕ, ◌+◌, ◌≤◌, Bool, true, false, List, [], ◌∷◌, drop, Option, Some, None}
use Rattle.std.specs.Borrow.{Bor}
use Rattle.std.specs.Cmp.Lexicographic.{slice_cmp}
use Rattle.std.specs.List.Sorted.{IsPartitionPoint}
use Rattle.std.specs.Ordering.{is_lt, nat_cmp, ordering_then}
use Rattle.std.specs.declared.cmp.Ordering.{Ordering}
use Rattle.a32_forms.specs.Cuts.{before_code}
use Rattle.a32_asm.specs.declared.places.LabelPlace.{LabelPlace}
use Rattle.a32_asm.specs.Layout.{Label}

-- the name at a place of a text ends before its colon
abbrev pub name_at : List ℕ → LabelPlace → List ℕ
name_at text place = before_code 58 (drop place.at text)

-- a name begins with a byte and goes on in the text behind it, or it has no byte
abbrev pub NamesOn : List ℕ → Option (ℕ × Bor (List ℕ)) → Type 0
NamesOn text None = before_code 58 text ≡ []
NamesOn text (Some found) = (before_code 58 text ≡ found.0 ∷ before_code 58 found.1.now) × (text ≡ found.0 ∷ found.1.now)

-- the label at a place of a text
abbrev pub label_at : List ℕ → LabelPlace → Label
label_at text place = record { name = name_at text place; place = place }

-- places in the order of their names, and those of one name as the text has them
abbrev pub order_of : List ℕ → LabelPlace → LabelPlace → Ordering
order_of text first second = ordering_then (slice_cmp nat_cmp (name_at text first) (name_at text second)) (nat_cmp first.at second.at)

-- a place's name is before another name
abbrev pub is_before : List ℕ → List ℕ → LabelPlace → Bool
is_before text name place = is_lt (slice_cmp nat_cmp (name_at text place) name)

-- so many places in front are those whose names are before a name
abbrev pub AreBefore : List ℕ → List ℕ → List LabelPlace → ℕ → Type 0
AreBefore text name places count =
    IsPartitionPoint (λ place. is_before text name place ≡ true) (λ place. is_before text name place ≡ false) places count

-- places stand one behind another in a text, from so many bytes on
abbrev pub Rise : ℕ → List LabelPlace → Type 0
Rise least [] = Unit {0}
Rise least (place ∷ places) = (least ≤ place.at) × Rise (place.at + 1) places
