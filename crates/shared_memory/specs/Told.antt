-- What a step of a memory tells its caller, as the memories share it. This project's own.
use Rattle.std.specs.Prelude.{◌≡◌, ℕ, false, List, [], ◌∷◌}
use Rattle.llsc_base.specs.declared.access.Place.{Place}
use Rattle.row_bytes.specs.Cell.{value_in_cell}
use Rattle.history.specs.declared.entry.Entry.{Entry}
use Rattle.history.specs.declared.entry.Entry.TheVariants.{Read}
use Rattle.atomic_table.specs.Table.{Me, Step}
use Rattle.shared_memory.specs.declared.views.View.{View}
use Rattle.shared_memory.specs.Origin.{IsLegalFrom, Origin}
use Rattle.shared_memory.specs.Passes.{IsSettled, nobody}
use Rattle.shared_memory.specs.Seen.{Sees}

-- what a call is about: the memory, the place, and the value to store
pub record Ask : Type 0 where
  pub origin : Origin
  pub place : Place
  pub value : ℕ

-- a seat, with what it knows
abbrev pub SeatOf : Type 0 → Type 0
SeatOf D = Me (Unit {0}) (View D)

-- a seat has seen the whole history, to which it has added these entries, and is doing this
pub record Goes {D : Type 0} (origin : Origin) (old : SeatOf D) (entries : List Entry) (doing : D) (new : SeatOf D) : Type 0 where
  pub sees : Sees origin old.0.lead old.0.seen entries new.0.seen
  pub numbers : new.0.numbers ≡ old.0.numbers
  pub lead : new.0.lead ≡ old.0.lead
  pub left : new.0.left ≡ nobody
  pub right : new.0.right ≡ nobody
  pub doing_is : new.0.doing ≡ doing
  pub slots : new.1 ≡ old.1

-- a seat that has taken in another is as one from then on
pub record Settles {D : Type 0} (old new : SeatOf D) : Type 0 where
  pub settled : IsSettled old.0 new.0
  pub slots : new.1 ≡ old.1

-- a seat stays as it is, and what it has seen is legal
pub record Vouches {D : Type 0} (origin : Origin) (old new : SeatOf D) : Type 0 where
  pub same : new ≡ old
  pub legal : IsLegalFrom origin old.0.seen

module _ {D : Type 0} where
  -- a load of a cell, as a load of the place
  abbrev pub loaded : Ask → Step (Unit {0}) → SeatOf D → ℕ → SeatOf D → Type 0
  loaded q st old n new = Goes q.origin old (Read old.0.lead q.place (value_in_cell n q.place) false ∷ []) old.0.doing new

  -- a load that is no access
  abbrev pub looked_at : Ask → Step (Unit {0}) → SeatOf D → ℕ → SeatOf D → Type 0
  looked_at q st old n new = Goes q.origin old [] old.0.doing new

  abbrev pub settled_at : Step (Unit {0}) → SeatOf D → ℕ → SeatOf D → Type 0
  settled_at st old n new = Settles old new

  -- a load by which a seat learns that what it has seen is legal
  abbrev pub vouched_at : Ask → Step (Unit {0}) → SeatOf D → ℕ → SeatOf D → Type 0
  vouched_at q st old n new = Vouches q.origin old new
