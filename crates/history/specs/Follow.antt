-- Which entry may come next, as things stand: the same legality, entry by entry.
use Rattle.std.specs.Prelude.{◌≡◌, ◌≢◌, ℕ, ◌<◌, ◌≤◌, ◌==◌, true, false, Option, Some, None, List, [], ◌∷◌}
use Rattle.llsc_base.specs.Memory.{cell_of, class_of, row_of}
use Rattle.llsc_base.specs.Sizes.{Numbers}
use Rattle.llsc_base.specs.declared.access.Place.{Place}
use Rattle.row_bytes.specs.Cell.{value_in_cell}
use Rattle.history.specs.ArmLegal.{IsSound}
use Rattle.history.specs.Standing.{Stage, rests, looked, begun, written, Standing, joined}
use Rattle.history.specs.declared.entry.Cause.{Cause}
use Rattle.history.specs.declared.entry.Cause.TheVariants.{Absent, Lost, Limit}
use Rattle.history.specs.declared.entry.Entry.{Entry}
use Rattle.history.specs.declared.entry.Entry.TheVariants.{Read, Write, Fail, Clear, Watch, Miss, Begin, End, Start}

-- a thread's write is in flight, to this place
abbrev pub flight_at : Stage → Option Place
flight_at rests = None
flight_at (looked place) = None
flight_at (begun place) = Some place
flight_at (written place) = Some place

-- a store-exclusive of a thread may fail for a cause
abbrev pub MayFailAt : Numbers → Standing → ℕ → ℕ → Cause → Type 0
MayFailAt size s thread row Absent = s.reserved thread ≢ Some row
MayFailAt size s thread row Lost = (s.reserved thread ≡ Some row) × (s.passed thread ≡ true)
MayFailAt size s thread row Limit =
    (s.reserved thread ≡ Some row) × (s.overtaken thread ≡ false) × (size.limit ≤ s.writes (class_of size.classes row))

-- a load-exclusive of a thread may get no reservation
pub record MayMissAt (size : Numbers) (s : Standing) (thread row : ℕ) : Type 0 where
  pub other : ℕ
  pub another : other ≢ thread
  pub target : Place
  pub flies : flight_at (s.stage other) ≡ Some target
  pub near : (class_of size.classes (row_of size.granule target) == class_of size.classes row) ≡ true

-- an entry may come next
abbrev pub MayJoin : Numbers → Standing → Entry → Type 0
MayJoin size s (Read thread place value true) =
    (s.stage thread ≡ looked place)
    × IsSound size.threads size.mem thread place value
    × (value ≡ value_in_cell (s.cells (cell_of place)) place)
MayJoin size s (Read thread place value false) =
    (s.stage thread ≡ rests)
    × IsSound size.threads size.mem thread place value
    × (value ≡ value_in_cell (s.cells (cell_of place)) place)
MayJoin size s (Write thread place value ex) =
    (s.stage thread ≡ begun place)
    × IsSound size.threads size.mem thread place value
    × (ex ≡ true → s.mark thread ≡ Some (row_of size.granule place))
MayJoin size s (Fail thread place value cause) =
    (s.stage thread ≡ rests)
    × IsSound size.threads size.mem thread place value
    × MayFailAt size s thread (row_of size.granule place) cause
MayJoin size s (Clear thread) = (s.stage thread ≡ rests) × (thread < size.threads)
MayJoin size s (Watch thread place) = s.stage thread ≡ rests
MayJoin size s (Miss thread place) = (s.stage thread ≡ rests) × MayMissAt size s thread (row_of size.granule place)
MayJoin size s (Begin thread place) = s.stage thread ≡ rests
MayJoin size s (End thread place) = s.stage thread ≡ written place
MayJoin size s (Start thread child entry arg) = s.stage thread ≡ rests

-- each entry of a list may come where it does
abbrev pub MayFollow : Numbers → Standing → List Entry → Type 0
MayFollow size s [] = Unit {0}
MayFollow size s (entry ∷ entries) = MayJoin size s entry × MayFollow size (joined size s entry) entries
