-- Only proofs and inner contracts need these words beside those of `specs/Under`.
use Rattle.std.specs.Prelude.{◌≡◌, ℕ, Bool, List}
use Rattle.llsc_base.specs.Images.{Program}
use Rattle.llsc_base.specs.declared.outside.CallAsk.{CallAsk}
use Rattle.guest_core.specs.Machine.{InstructionSet}
use Rattle.guest_calls.specs.Run.{Pair, PointOf, ReachesBy}
use Rattle.guest_thread.specs.declared.guests.Event.{Event}
use Rattle.guest_thread.specs.declared.guests.Event.TheVariants as event
use Rattle.guest_thread.specs.ThreadState.{ThreadOf}
use Rattle.guest_thread.specs.Under.{ComesToFrom, CallsToStart}

module _ {I S : Type 0} (set : InstructionSet I S) where
  -- What a thread's turn comes to where it may start threads: what a turn of another does; or it has called for a thread to be
  -- started; or its steps are the budget, and it stands where it has come to.
  abbrev pub ComesToEvent : Bool → Program → ℕ → PointOf I S → List Pair → Event → ThreadOf I S → Type 0
  ComesToEvent stocked program budget from pairs (event.Turns turn) standing = ComesToFrom set stocked program budget from pairs turn standing
  ComesToEvent stocked program budget from pairs event.Starts standing =
      (call : CallAsk) × CallsToStart set stocked program budget from pairs call standing.cpu standing.steps standing.output
  ComesToEvent stocked program budget from pairs event.Spent standing =
      ReachesBy set stocked program budget from pairs standing.cpu standing.steps standing.output × (standing.steps ≡ budget)
