-- Why a store-exclusive may fail, and why a load-exclusive may get no reservation: this project's own choice of what
-- DDI 0406C A3.4 leaves to an implementation.
use Rattle.std.specs.Prelude.{◌≡◌, ◌≢◌, ℕ, ◌==◌, ◌&&◌, ◌≤◌, not, if◌then◌else◌, Bool, true, false, Option, Some, None, List, [], count_by}
use Rattle.std.specs.List.{list_any}
use Rattle.llsc_base.specs.Memory.{row_of}
use Rattle.llsc_base.specs.Sizes.{Numbers}
use Rattle.llsc_base.specs.declared.access.Place.{Place}
use Rattle.history.specs.Entry.{is_in_class}
use Rattle.history.specs.Since.{Since, begin_of, is_end_of, since_last, watch_of}
use Rattle.history.specs.Reservation.{reservation_of}
use Rattle.history.specs.declared.entry.Cause.{Cause}
use Rattle.history.specs.declared.entry.Cause.TheVariants.{Absent, Lost, Limit}
use Rattle.history.specs.declared.entry.Entry.{Entry}
use Rattle.history.specs.declared.entry.Entry.TheVariants.{Write, Fail, Watch, Miss, Begin}

-- the entries since some entry
abbrev pub later_of : Option Since → List Entry
later_of None = []
later_of (Some since) = since.later

-- the entries since the last Watch of a thread
abbrev pub since_watch : ℕ → List Entry → List Entry
since_watch thread history = later_of (since_last (watch_of thread) history)

-- a write of another thread has begun in the class of a row
abbrev pub is_begin_of_another : Numbers → ℕ → ℕ → Entry → Bool
is_begin_of_another size thread row (Begin other place) = not (other == thread) && is_in_class size row place
is_begin_of_another size thread row _ = false

-- a write, or a load-exclusive with a reservation, of another thread has begun in the class of a row
abbrev pub is_start_of_another : Numbers → ℕ → ℕ → Entry → Bool
is_start_of_another size thread row (Begin other place) = not (other == thread) && is_in_class size row place
is_start_of_another size thread row (Watch other place) = not (other == thread) && is_in_class size row place
is_start_of_another size thread row _ = false

-- a write of anybody has begun in the class of a row
abbrev pub is_begin : Numbers → ℕ → Entry → Bool
is_begin size row (Begin other place) = is_in_class size row place
is_begin size row _ = false

-- a Write in the class of a row
abbrev pub is_write : Numbers → ℕ → Entry → Bool
is_write size row (Write other place value ex) = is_in_class size row place
is_write size row _ = false

-- how many Writes the class of a row has had
abbrev pub writes_in_class : Numbers → ℕ → List Entry → ℕ
writes_in_class size row history = count_by (is_write size row) history

-- no class has had more Writes than it may have
abbrev pub KeepsLimit : Numbers → List Entry → Type 0
KeepsLimit size history = (row : ℕ) → writes_in_class size row history ≤ size.limit

-- the place of a write that is in flight since a Begin: until its thread has an End
abbrev pub flight_since : ℕ → Option Since → Option Place
flight_since thread None = None
flight_since thread (Some since) = if list_any (is_end_of thread) since.later then None else Some since.place

-- the place of a thread's write that is in flight after a history, if one is
abbrev pub flight_of : ℕ → List Entry → Option Place
flight_of thread history = flight_since thread (since_last (begin_of thread) history)

-- a store-exclusive of a thread may fail for a cause: it holds no reservation on the row; it holds one, and a write of
-- another in the class, or its load-exclusive with a reservation, has begun since; it holds one, no write of another in
-- the class has begun since, and the class has had as many Writes as it may have
abbrev pub MayFail : Numbers → List Entry → ℕ → Place → Cause → Type 0
MayFail size past thread place Absent = reservation_of size thread past ≢ Some (row_of size.granule place)
MayFail size past thread place Lost =
    (reservation_of size thread past ≡ Some (row_of size.granule place))
    × (list_any (is_start_of_another size thread (row_of size.granule place)) (since_watch thread past) ≡ true)
MayFail size past thread place Limit =
    (reservation_of size thread past ≡ Some (row_of size.granule place))
    × (list_any (is_begin_of_another size thread (row_of size.granule place)) (since_watch thread past) ≡ false)
    × (size.limit ≤ writes_in_class size (row_of size.granule place) past)

-- a load-exclusive of a thread may get no reservation: a write of another in the class is in flight
pub record MayMiss (size : Numbers) (past : List Entry) (thread : ℕ) (place : Place) : Type 0 where
  pub other : ℕ
  pub another : other ≢ thread
  pub target : Place
  pub flies : flight_of other past ≡ Some target
  pub near : is_in_class size (row_of size.granule place) target ≡ true

-- an entry has its cause in what stands before it
abbrev pub HasCause : Numbers → List Entry → Entry → Type 0
HasCause size past (Fail thread place value cause) = MayFail size past thread place cause
HasCause size past (Miss thread place) = MayMiss size past thread place
HasCause size past _ = Unit {0}
