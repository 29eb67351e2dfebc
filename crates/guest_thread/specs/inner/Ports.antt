-- Only proofs and inner contracts need these words beside those of `specs/Ports`.
use Rattle.std.specs.Prelude.{◌≡◌, ℕ, Bool, List, None}
use Rattle.llsc_base.specs.Images.{Program}
use Rattle.guest_core.specs.Machine.{InstructionSet, between}
use Rattle.guest_calls.specs.Run.{Pair, PointOf}
use Rattle.guest_thread.specs.ThreadState.{ThreadOf}
use Rattle.guest_thread.specs.inner.ThreadState.{StopsWithin}
use Rattle.guest_thread.specs.inner.Under.{ComesToEvent}
use Rattle.guest_thread.specs.declared.guests.Event.TheVariants as event
use Rattle.guest_thread.specs.declared.ports.Rest.{Rest}
use Rattle.guest_thread.specs.declared.ports.Rest.TheVariants.{Stopped, Starts, Spent}
use Rattle.guest_thread.specs.Ports.{EndsByFrom}

module _ {I S : Type 0} (set : InstructionSet I S) where
  -- How a thread that may start threads comes to rest: it has ended; or it has called for a thread to be started; or its steps are the
  -- budget.
  abbrev pub RestsBy : Bool → (ℕ → Type 0) → Program → ℕ → PointOf I S → List Pair → Rest → ThreadOf I S → Type 0
  RestsBy stocked refuses program budget from pairs (Stopped stop) standing =
      EndsByFrom set stocked refuses program budget from pairs stop standing.steps standing.output
  RestsBy stocked refuses program budget from pairs Starts standing = ComesToEvent set stocked program budget from pairs event.Starts standing
  RestsBy stocked refuses program budget from pairs Spent standing = ComesToEvent set stocked program budget from pairs event.Spent standing

-- where it has ended, that was before its steps were the budget, or by the exit call
abbrev pub RestsWithin : {I S : Type 0} → ℕ → Rest → ThreadOf I S → Type 0
RestsWithin budget (Stopped stop) standing = StopsWithin budget stop standing.steps
RestsWithin budget _ standing = Unit {0}

-- it is between two instructions, and no write is under way
pub record IsAtRest {I S : Type 0} (standing : ThreadOf I S) : Type 0 where
  pub printing : standing.printing ≡ None
  pub between : standing.cpu ≡ between standing.cpu.state
