-- Only proofs and inner contracts need these words beside those of `specs/ThreadState`.
use Rattle.std.specs.Prelude.{◌≡◌, ◌⊎◌, ℕ, ◌<◌}
use Rattle.llsc_base.specs.declared.outside.Stop.{Stop}
use Rattle.llsc_base.specs.declared.outside.Stop.TheVariants.{Exit}
use Rattle.guest_thread.specs.declared.guests.Event.{Event}
use Rattle.guest_thread.specs.declared.guests.Event.TheVariants as event
use Rattle.guest_thread.specs.declared.guests.Turn.{Turn}
use Rattle.guest_thread.specs.declared.guests.Turn.TheVariants as turn
use Rattle.guest_thread.specs.ThreadState.{ThreadOf, IsPendingAfter}

abbrev pub IsPendingAfterEvent : {I S : Type 0} → ℕ → ℕ → Event → ThreadOf I S → Type 0
IsPendingAfterEvent mem budget (event.Turns turn) standing = IsPendingAfter mem budget turn standing
IsPendingAfterEvent mem budget _ standing = Unit {0}

-- a thread's stop comes before its steps are the budget, or is the exit call
abbrev pub StopsWithin : ℕ → Stop → (steps : ℕ) → Type 0
StopsWithin budget stop steps = (steps < budget) ⊎ ((code : ℕ) × (stop ≡ Exit code))

abbrev pub TurnsWithin : {I S : Type 0} → ℕ → Turn → ThreadOf I S → Type 0
TurnsWithin budget (turn.Asks ask) standing = Unit {0}
TurnsWithin budget (turn.Ended stop) standing = StopsWithin budget stop standing.steps

-- where a turn is a stop, it is such a one
abbrev pub EndsWithin : {I S : Type 0} → ℕ → Event → ThreadOf I S → Type 0
EndsWithin budget (event.Turns turn) standing = TurnsWithin budget turn standing
EndsWithin budget _ standing = Unit {0}
