-- Where an entry stands in what a pass has seen, and what was so before it. This project's own.
use Rattle.std.specs.Prelude.{◌≡◌, ◌<◌, ℕ, List, ◌∷◌, ◌++◌}
use Rattle.llsc_base.specs.Memory.{row_of}
use Rattle.llsc_base.specs.Sizes.{Numbers}
use Rattle.llsc_base.specs.declared.access.Place.{Place}
use Rattle.history.specs.Cause.{writes_in_class}
use Rattle.history.specs.declared.entry.Entry.{Entry}
use Rattle.shared_memory.specs.Seen.{IsFront}

-- an entry stands in what was seen, behind what had been seen, and something is so of all that stands before it
pub record Stands (about : List Entry → Type 0) (entry : Entry) (old new : List Entry) : Type 0 where
  pub past : List Entry
  pub later : List Entry
  pub are : new ≡ past ++ (entry ∷ later)
  pub since : IsFront old past
  pub fact : about past

-- the stamp of an entry: how many Writes of the class of its place stand before it
abbrev pub IsStamped : Numbers → Place → ℕ → Entry → List Entry → List Entry → Type 0
IsStamped size place stamp = Stands (λ past. writes_in_class size (row_of size.granule place) past ≡ stamp)

-- an entry stands where the class of its place may take another write
abbrev pub HasRoom : Numbers → Place → Entry → List Entry → List Entry → Type 0
HasRoom size place = Stands (λ past. writes_in_class size (row_of size.granule place) past < size.limit)
