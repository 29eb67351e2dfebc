-- Only proofs and inner contracts need these words.
-- What a thread knows by what it is doing, of how things stand after the history so far: this project's own.
use Rattle.std.specs.Prelude.{◌≡◌, ◌≢◌, ◌⊎◌, ◌+◌, ℕ, true, false, Some, None}
use Rattle.llsc_base.specs.Memory.{class_of, row_of}
use Rattle.llsc_base.specs.Sizes.{Numbers}
use Rattle.llsc_base.specs.declared.access.Place.{Place}
use Rattle.history.specs.Standing.{Standing, begun, looked, rests, written}
use Rattle.history.specs.Follow.{flight_at}
use Rattle.hst_memory.specs.declared.hands.Doing.{Doing}
use Rattle.hst_memory.specs.declared.hands.Doing.TheVariants.{Rest, Inside, Begun, Written, Alone, Watching, Done, AloneBegun, AloneWritten}
use Rattle.hst_memory.specs.declared.hands.Reserve.{Reserve}
use Rattle.hst_memory.specs.declared.hands.Reserve.TheVariants.{Nothing, Row, Several}
use Rattle.hst_memory.specs.declared.hands.Hand.{Hand}

-- how far the thread has come; a store-exclusive that has begun is marked on its row
abbrev pub IsAt : Numbers → Standing → ℕ → Doing → Type 0
IsAt size s thread Rest = s.stage thread ≡ rests
IsAt size s thread (Inside place) = s.stage thread ≡ rests
IsAt size s thread (Begun place) = s.stage thread ≡ begun place
IsAt size s thread (Written place) = s.stage thread ≡ written place
IsAt size s thread Alone = s.stage thread ≡ rests
IsAt size s thread (Watching place) = s.stage thread ≡ looked place
IsAt size s thread Done = s.stage thread ≡ rests
IsAt size s thread (AloneBegun place) = (s.stage thread ≡ begun place) × (s.mark thread ≡ Some (row_of size.granule place))
IsAt size s thread (AloneWritten place) = s.stage thread ≡ written place

-- a write of a thread is in flight in a class
pub record Flies (size : Numbers) (s : Standing) (thread class : ℕ) : Type 0 where
  pub place : Place
  pub flies : flight_at (s.stage thread) ≡ Some place
  pub near : class_of size.classes (row_of size.granule place) ≡ class

-- a thread that has a reservation on a row is marked on it, or is about to read it exclusively
abbrev pub IsMarked : Numbers → Standing → ℕ → ℕ → Type 0
IsMarked size s thread row = ((place : Place) × (s.stage thread ≡ looked place) × (row_of size.granule place ≡ row)) ⊎ (s.mark thread ≡ Some row)

-- a thread has a reservation on a row. While no other has come to the class since, the class has its name, no write of
-- another is in flight in it, and the thread is marked on the row; after that the class has another name
pub record Keeps (size : Numbers) (s : Standing) (thread row : ℕ) : Type 0 where
  pub is : s.reserved thread ≡ Some row
  pub mine : s.passed thread ≡ false → s.name (class_of size.classes row) ≡ thread + 1
  pub gone : s.passed thread ≡ true → s.name (class_of size.classes row) ≢ thread + 1
  pub clear : s.passed thread ≡ false → (other : ℕ) → other ≢ thread → Flies size s other (class_of size.classes row) → ⊥
  pub marks : s.passed thread ≡ false → IsMarked size s thread row

-- the reservation is the thread's
abbrev pub IsReserve : Numbers → Standing → ℕ → Reserve → Type 0
IsReserve size s thread Nothing = s.reserved thread ≡ None
IsReserve size s thread (Row row) = Keeps size s thread row
IsReserve size s thread Several = Unit {0}

-- a store that has begun isn't in the class of the thread's reservation; a load-exclusive has it on its own row
abbrev pub Agrees : Numbers → Doing → Reserve → Type 0
Agrees size (Begun place) (Row row) = class_of size.classes (row_of size.granule place) ≢ class_of size.classes row
Agrees size (Watching place) (Row row) = row_of size.granule place ≡ row
Agrees size _ _ = Unit {0}

-- what the thread of a seat knows
pub record Knows (size : Numbers) (s : Standing) (thread : ℕ) (hand : Hand) : Type 0 where
  pub at : IsAt size s thread hand.doing
  pub reserve : IsReserve size s thread hand.reserve
  pub agrees : Agrees size hand.doing hand.reserve
