-- When a store-exclusive succeeds on this memory, and when a store is refused. This project's own, as DDI 0406C A3.4 leaves the
-- first to an implementation.
use Rattle.std.specs.Prelude.{◌≡◌, ◌*◌, ◌<◌, ℕ, true, false, Some, List}
use Rattle.std.specs.List.{list_any}
use Rattle.llsc_base.specs.Memory.{row_of}
use Rattle.llsc_base.specs.Sizes.{Numbers}
use Rattle.llsc_base.specs.declared.access.Place.{Place}
use Rattle.history.specs.Cause.{flight_of, is_begin, is_begin_of_another, since_watch, writes_in_class}
use Rattle.history.specs.Entry.{is_in_class}
use Rattle.history.specs.Reservation.{reservation_of}
use Rattle.history.specs.declared.entry.Entry.{Entry}

-- after a history a thread holds a reservation on the row of a place, since then no write of anybody has begun in the class of
-- the row, and the class may take another
pub record IsUndisturbed (size : Numbers) (thread : ℕ) (place : Place) (history : List Entry) : Type 0 where
  pub reserved : reservation_of size thread history ≡ Some (row_of size.granule place)
  pub quiet : list_any (is_begin size (row_of size.granule place)) (since_watch thread history) ≡ false
  pub room : writes_in_class size (row_of size.granule place) history < size.limit

-- after a history a thread holds a reservation on the row of a place, and a write of another has begun in the class since then
pub record IsOvertaken (size : Numbers) (thread : ℕ) (place : Place) (history : List Entry) : Type 0 where
  pub reserved : reservation_of size thread history ≡ Some (row_of size.granule place)
  pub begun : list_any (is_begin_of_another size thread (row_of size.granule place)) (since_watch thread history) ≡ true

-- after a history the class of a place has had as many writes as it may have, and none of its writes is in flight
pub record IsAtLimit (size : Numbers) (place : Place) (history : List Entry) : Type 0 where
  pub writes : writes_in_class size (row_of size.granule place) history ≡ size.limit
  pub idle : (thread : ℕ) (target : Place) → flight_of thread history ≡ Some target → is_in_class size (row_of size.granule place) target ≡ true → ⊥

-- a version is twice the Writes that the class of a place has had
abbrev pub IsVersion : Numbers → Place → ℕ → List Entry → Type 0
IsVersion size place version history = 2 * writes_in_class size (row_of size.granule place) history ≡ version
