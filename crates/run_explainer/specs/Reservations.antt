-- What came of the reservation that a thread had by its last load-exclusive, as the accesses since say (DDI 0406C A3.4.1, A3.4.2).
use Rattle.std.specs.Prelude.{ℕ, ◌==◌, ◌&&◌, ◌||◌, not, Bool, true, false, Option, Some, None, List, [], ◌∷◌, length}
use Rattle.std.specs.List.{filter, find}
use Rattle.std.specs.Option.{option_map}
use Rattle.run_explainer.specs.Events.{is_by, is_ending, is_load_ex, is_write, row_at}
use Rattle.run_explainer.specs.declared.events.Event.{Event}
use Rattle.run_explainer.specs.declared.reservations.Reservation.{Reservation}
use Rattle.run_explainer.specs.declared.reservations.Writes.{Writes}

-- an event, and those behind it
pub record Since : Type 0 where
  pub event : Event
  pub later : List Event

abbrev pub or_here : Option Since → Bool → Event → List Event → Option Since
or_here (Some since) here event later = Some since
or_here None true event later = Some (record { event = event; later = later })
or_here None false event later = None

-- the last load-exclusive of a thread, and the events behind it
abbrev pub since_load_ex : (thread : ℕ) → List Event → Option Since
since_load_ex thread [] = None
since_load_ex thread (event ∷ events) =
    or_here (since_load_ex thread events) (is_by thread event && is_load_ex event.access.deed) event events

-- an event by which a thread ends its own reservation of a row: a store-exclusive, a CLREX, or a store to the row
abbrev pub gives_up : (granule thread row : ℕ) → Event → Bool
gives_up granule thread row event =
    is_by thread event && (is_ending event.access.deed || (is_write event.access.deed && (row_at granule event == row)))

-- another thread's write of a row
abbrev pub takes_away : (granule thread row : ℕ) → Event → Bool
takes_away granule thread row event = not (is_by thread event) && (is_write event.access.deed && (row_at granule event == row))

-- the last of some events
abbrev pub last_of : Event → List Event → Event
last_of event [] = event
last_of event (next ∷ events) = last_of next events

-- writes by their first, their last and their number
abbrev pub writes_of : List Event → Option Writes
writes_of [] = None
writes_of (event ∷ events) = Some (record { first = event; last = last_of event events; count = length (event ∷ events) })

-- what came of a reservation: the first event by which its own thread ended it, and the writes of its row by others
abbrev pub reservation_since : (granule thread : ℕ) → Since → Reservation
reservation_since granule thread since =
    let row = row_at granule since.event in
    record {
      load = since.event;
      own = find (gives_up granule thread row) since.later;
      writes = writes_of (filter (takes_away granule thread row) since.later);
    }

-- what came of a thread's last reservation, if it has made a load-exclusive
abbrev pub reservation_of : (granule thread : ℕ) → List Event → Option Reservation
reservation_of granule thread events = option_map (reservation_since granule thread) (since_load_ex thread events)
