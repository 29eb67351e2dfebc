-- What a thread knows by what it is doing, of how things stand after the history so far: this project's own.
use Rattle.std.specs.Prelude.{◌≡◌, ◌≢◌, ◌⊎◌, ◌+◌, ◌*◌, ◌%◌, ◌<◌, ◌≤◌, ℕ, Bool, true, false, Some, None}
use Rattle.llsc_base.specs.Memory.{cell_of, class_of, row_of}
use Rattle.llsc_base.specs.Sizes.{Numbers}
use Rattle.llsc_base.specs.declared.access.Place.{Place}
use Rattle.history.specs.Standing.{Standing, begun, looked, rests, written}
use Rattle.history.specs.Follow.{flight_at}
use Rattle.version_rule.specs.declared.hands.Doing.{Doing}
use Rattle.version_rule.specs.declared.hands.Doing.TheVariants.{Rest, Claimed, Holding, Written, Looking, First, Second}
use Rattle.version_rule.specs.declared.hands.Reserve.{Reserve}
use Rattle.version_rule.specs.declared.hands.Reserve.TheVariants.{Nothing, Row, Several}
use Rattle.version_rule.specs.declared.hands.Hand.{Hand}
use Rattle.version_rule.specs.Hands.{class_at}

-- a write of a thread is in flight in a class
pub record Flies (size : Numbers) (s : Standing) (thread class : ℕ) : Type 0 where
  pub place : Place
  pub flies : flight_at (s.stage thread) ≡ Some place
  pub near : class_at size place ≡ class

-- a write of the thread has begun at a version, twice the writes that the class has had; one that is exclusive is marked on
-- its row
pub record HasBegun (size : Numbers) (s : Standing) (thread : ℕ) (place : Place) (version : ℕ) (ex : Bool) : Type 0 where
  pub stage : s.stage thread ≡ begun place
  pub even : version % 2 ≡ 0
  pub edges : s.edges (class_at size place) ≡ version + 1
  pub writes : 2 * s.writes (class_at size place) ≡ version
  pub marked : ex ≡ true → s.mark thread ≡ Some (row_of size.granule place)

-- it is written, and isn't over
pub record IsWritten (size : Numbers) (s : Standing) (thread : ℕ) (place : Place) (version : ℕ) : Type 0 where
  pub stage : s.stage thread ≡ written place
  pub even : version % 2 ≡ 0
  pub edges : s.edges (class_at size place) ≡ version + 1
  pub writes : 2 * s.writes (class_at size place) ≡ version + 2

-- a thread has found a version of the class of a place, and its load hasn't come yet
pub record HasFound (size : Numbers) (s : Standing) (thread : ℕ) (place : Place) (version : ℕ) : Type 0 where
  pub stage : s.stage thread ≡ rests
  pub even : version % 2 ≡ 0
  pub most : version ≤ s.edges (class_at size place)

-- how far the thread has come. Who holds a class knows its cells; who doesn't knows a cell as long as the version is the same
abbrev pub IsAt : Numbers → Standing → ℕ → Doing → Type 0
IsAt size s thread Rest = s.stage thread ≡ rests
IsAt size s thread (Claimed place version ex) = HasBegun size s thread place version ex
IsAt size s thread (Holding place version ex cell) = HasBegun size s thread place version ex × (s.cells (cell_of place) ≡ cell)
IsAt size s thread (Written place version) = IsWritten size s thread place version
IsAt size s thread (Looking place) = s.stage thread ≡ looked place
IsAt size s thread (First place version) = HasFound size s thread place version
IsAt size s thread (Second place version cell) =
    HasFound size s thread place version × (s.edges (class_at size place) ≡ version → s.cells (cell_of place) ≡ cell)

-- a thread that has a reservation on a row is marked on it, or is about to read it exclusively
abbrev pub IsMarked : Numbers → Standing → ℕ → ℕ → Type 0
IsMarked size s thread row = ((place : Place) × (s.stage thread ≡ looked place) × (row_of size.granule place ≡ row)) ⊎ (s.mark thread ≡ Some row)

-- a thread has a reservation on a row, which it has had since the row's class was at this version. While no write of another
-- has begun in the class since, the class is there still, and the thread is marked on the row; after that the class has gone on
pub record Watches (size : Numbers) (s : Standing) (thread row version : ℕ) : Type 0 where
  pub is : s.reserved thread ≡ Some row
  pub even : version % 2 ≡ 0
  pub still : s.overtaken thread ≡ false → s.edges (class_of size.classes row) ≡ version
  pub gone : s.overtaken thread ≡ true → (version < s.edges (class_of size.classes row)) × (s.passed thread ≡ true)
  pub stirs : s.stirred thread ≡ s.overtaken thread
  pub marks : s.overtaken thread ≡ false → IsMarked size s thread row

-- the reservation is the thread's
abbrev pub IsReserve : Numbers → Standing → ℕ → Reserve → Type 0
IsReserve size s thread Nothing = s.reserved thread ≡ None
IsReserve size s thread (Row row version) = Watches size s thread row version
IsReserve size s thread Several = Unit {0}

-- where a thread has a reservation, its write that has begun is a plain one, and not in the class; a load-exclusive has it on
-- its own row
abbrev pub Agrees : Numbers → Doing → Reserve → Type 0
Agrees size (Claimed place version ex) (Row row at) = (ex ≡ false) × (class_at size place ≢ class_of size.classes row)
Agrees size (Holding place version ex cell) (Row row at) = (ex ≡ false) × (class_at size place ≢ class_of size.classes row)
Agrees size (Written place version) (Row row at) = class_at size place ≢ class_of size.classes row
Agrees size (Looking place) (Row row at) = row_of size.granule place ≡ row
Agrees size _ _ = Unit {0}

-- what the thread of a seat knows
pub record Knows (size : Numbers) (s : Standing) (thread : ℕ) (hand : Hand) : Type 0 where
  pub at : IsAt size s thread hand.doing
  pub reserve : IsReserve size s thread hand.reserve
  pub agrees : Agrees size hand.doing hand.reserve
