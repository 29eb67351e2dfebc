-- How the reservations that are told stand to the marks of Arm's exclusive monitors (DDI 0406C A3.4.1, A3.4.2).
use Rattle.std.specs.Prelude.{◌≡◌, ℕ, Option, Some, None, true, List, [], ◌∷◌, ◌++◌, map}
use Rattle.llsc_base.specs.Images.{Program}
use Rattle.llsc_base.specs.Sizes.{Numbers}
use Rattle.history.specs.Monitor.{marked_row}
use Rattle.history.specs.declared.entry.Access.{Access}
use Rattle.history.specs.declared.entry.Deed.TheVariants as deed
use Rattle.guest_core.specs.Machine.{InstructionSet}
use Rattle.guest_thread.specs.Accesses.{monitor_of}
use Rattle.run_record.specs.Limits.{IsRecord}
use Rattle.run_record.specs.declared.records.RunRecord.{RunRecord}
use Rattle.run_checker.specs.Sighted.{AreSighted}
use Rattle.run_checker.specs.Verdict.{Judges}
use Rattle.run_checker.specs.declared.sightings.Sighting.{Sighting}
use Rattle.run_checker.specs.declared.verdicts.Verdict.TheVariants as verdict
use Rattle.run_explainer.specs.Events.{events_of, row_at}
use Rattle.run_explainer.specs.Reservations.{takes_away}
use Rattle.run_explainer.specs.declared.events.Event.{Event}
use Rattle.run_explainer.specs.declared.reservations.Reservation.{Reservation}
use Rattle.run_explainer.specs.declared.reservations.Writes.{Writes}

-- the accesses of events
abbrev pub accesses_in : List Event → List Access
accesses_in events = map (λ event. event.access) events

-- the row on which a thread is marked behind some events, if it is
abbrev pub marked_behind : Program → Numbers → (thread : ℕ) → List Event → Option ℕ
marked_behind program size thread events = marked_row (monitor_of program size (accesses_in events)) thread

-- the row of a reservation that its own thread hasn't ended, and whose row nobody else has written
abbrev pub row_unless : ℕ → Option Event → Option Writes → Option ℕ
row_unless row None None = Some row
row_unless row own writes = None

abbrev pub reserved_row : (granule : ℕ) → Option Reservation → Option ℕ
reserved_row granule None = None
reserved_row granule (Some reservation) = row_unless (row_at granule reservation.load) reservation.own reservation.writes

-- A load-exclusive of a thread marked its row for the thread. The mark stood up to another thread's write of the row, and was gone
-- behind it.
pub record IsEndedBy (program : Program) (size : Numbers) (thread : ℕ) (events : List Event) (load write : Event) : Type 0 where
  pub before : List Event
  pub between : List Event
  pub after : List Event
  pub are : events ≡ before ++ (load ∷ (between ++ (write ∷ after)))
  pub own : load.access.thread ≡ thread
  pub loads : load.access.deed ≡ deed.LoadEx
  pub takes : takes_away size.granule thread (row_at size.granule load) write ≡ true
  pub marked : (first rest : List Event) → between ≡ first ++ rest → marked_behind program size thread (before ++ (load ∷ first)) ≡ Some (row_at size.granule load)
  pub ended : marked_behind program size thread (before ++ (load ∷ (between ++ (write ∷ [])))) ≡ None

-- the events of a good record
pub record AreOfGood {I S : Type 0} (set : InstructionSet I S) (program : Program) (size : Numbers) (run : RunRecord) (events : List Event) : Type 0 where
  pub sightings : List Sighting
  pub is_record : IsRecord run
  pub threads : run.threads ≡ size.threads
  pub good : Judges set program size run.budget run.accesses verdict.Good
  pub sighted : AreSighted set program size run.budget run.accesses sightings
  pub are : events ≡ events_of run.accesses sightings
