-- What holds of a thread between two of its turns.
use Rattle.std.proofs.Common.{ℕ, ◌≤◌, List}
use Rattle.llsc_base.specs.Images.{Program}
use Rattle.guest_core.specs.Machine.{MachineOf, InstructionSet}
use Rattle.guest_calls.specs.Run.{Pair}
use Rattle.guest_thread.specs.Progress.{IsBounded, HasKept}
use Rattle.guest_thread.specs.ThreadState.{ThreadOf}
use Rattle.guest_thread.specs.inner.Turns.{IsAtTurn}
use Rattle.guest_thread.specs.Under.{HasCome}

module _ {I S : Type 0} (set : InstructionSet I S) where
  -- no write is under way, its core is ready, its steps are within the budget, and it has come as far as it had at first,
  -- with the same accesses; and it has come no less far, by its steps and its replies
  pub record IsOnItsWay (program : Program) (budget : ℕ) (from standing : ThreadOf I S) : Type 0 where
    pub at_turn : IsAtTurn standing
    pub within : standing.steps ≤ budget
    pub way : (start : MachineOf I S) (pairs : List Pair) → HasCome set program budget start pairs from → HasCome set program budget start pairs standing
    pub kept : IsBounded from → HasKept from standing
