-- Why a store-exclusive failed.
use Rattle.std.specs.Prelude.{ℕ, ◌==◌, ◌&&◌, Bool, if◌then◌else◌, Option, Some, None, List}
use Rattle.run_checker.specs.Verdict.{is_place}
use Rattle.run_explainer.specs.Events.{row_at}
use Rattle.run_explainer.specs.Reservations.{reservation_of}
use Rattle.run_explainer.specs.declared.events.Event.{Event}
use Rattle.run_explainer.specs.declared.reasons.Why.{Why}
use Rattle.run_explainer.specs.declared.reasons.Why.TheVariants.{NoLoadExclusive, AnotherRow, EndedItself, Written, Otherwise}
use Rattle.run_explainer.specs.declared.reservations.Reservation.{Reservation}
use Rattle.run_explainer.specs.declared.reservations.Writes.{Writes}

-- a store-exclusive that failed has the place of the load-exclusive, and memory has there the value that was read
abbrev pub came_back : (load failed : Event) → Bool
came_back load failed = is_place load.access.place failed.access.place && (failed.sighting.held == load.access.value)

-- The reason why a store-exclusive failed, the first that holds: its thread had ended the reservation itself; another thread had
-- written the row; or neither, so that another row of its class was written, or the class takes no more writes.
abbrev pub why_kept : Event → Reservation → Option Event → Option Writes → Why
why_kept failed reservation (Some own) writes = EndedItself reservation.load own
why_kept failed reservation None (Some writes) = Written reservation.load writes (came_back reservation.load failed)
why_kept failed reservation None None = Otherwise reservation.load

-- before these: its thread had made no load-exclusive, or its last one in another row
abbrev pub why_by : (granule : ℕ) → Event → Option Reservation → Why
why_by granule failed None = NoLoadExclusive
why_by granule failed (Some reservation) =
    if row_at granule reservation.load == row_at granule failed
    then why_kept failed reservation reservation.own reservation.writes
    else AnotherRow reservation.load

-- why a store-exclusive failed, by the events before it
abbrev pub why_of : (granule : ℕ) → List Event → Event → Why
why_of granule before failed = why_by granule failed (reservation_of granule failed.access.thread before)
