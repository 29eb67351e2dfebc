-- Only proofs and inner contracts need these words.
-- What a seat is doing: what it weighs in the section's word, and what becomes of its reservation. This project's own.
use Rattle.std.specs.Prelude.{ℕ, Option, Some, None, ◌+◌, ◌^◌, ◌==◌, if◌then◌else◌, List, [], ◌∷◌}
use Rattle.llsc_base.specs.Memory.{class_of, row_of}
use Rattle.llsc_base.specs.Sizes.{Numbers}
use Rattle.llsc_base.specs.declared.access.Place.{Place}
use Rattle.shared_memory.specs.declared.views.View.{View}
use Rattle.hst_memory.specs.declared.hands.Doing.{Doing}
use Rattle.hst_memory.specs.declared.hands.Doing.TheVariants.{Rest, Inside, Begun, Written, Alone, Watching, Done, AloneBegun, AloneWritten}
use Rattle.hst_memory.specs.declared.hands.Reserve.{Reserve}
use Rattle.hst_memory.specs.declared.hands.Reserve.TheVariants.{Nothing, Row, Several}
use Rattle.hst_memory.specs.declared.hands.Hand.{Hand}

-- what the section's word is while one thread is inside alone
abbrev pub alone_word : ℕ
alone_word = 2 ^ 32

-- what a seat adds to the section's word
abbrev pub weight_of : Doing → ℕ
weight_of Rest = 0
weight_of (Inside place) = 1
weight_of (Begun place) = 1
weight_of (Written place) = 1
weight_of Alone = alone_word
weight_of (Watching place) = alone_word
weight_of Done = alone_word
weight_of (AloneBegun place) = alone_word
weight_of (AloneWritten place) = alone_word

-- what all seats add to it
abbrev pub total_of : List (View Hand) → ℕ
total_of [] = 0
total_of (view ∷ views) = weight_of view.doing.doing + total_of views

abbrev pub hand : Doing → Reserve → Hand
hand doing reserve = record { doing = doing; reserve = reserve }

-- a reservation after the thread's own store to a place, which ends it where it falls into the class
abbrev pub reserve_after : Numbers → Place → Reserve → Reserve
reserve_after size place Nothing = Nothing
reserve_after size place Several = Several
reserve_after size place (Row row) =
    if class_of size.classes (row_of size.granule place) == class_of size.classes row then Nothing else Row row

-- the reservation of a seat that has taken in another: of several threads it isn't known
abbrev pub reserve_joined : View Hand → View Hand → Reserve
reserve_joined one other = if one.lead == other.lead then Nothing else Several

-- the row of a reservation after the thread's own store to a place
abbrev pub row_after : Numbers → Place → Option ℕ → Option ℕ
row_after size place None = None
row_after size place (Some row) =
    if class_of size.classes (row_of size.granule place) == class_of size.classes row then None else Some row
