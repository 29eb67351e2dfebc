-- A thread that has ended, by its accesses among those of all.
use Rattle.std.specs.Prelude.{ℕ, List}
use Rattle.llsc_base.specs.Images.{Program}
use Rattle.llsc_base.specs.Sizes.{Numbers}
use Rattle.history.specs.declared.entry.Access.{Access}
use Rattle.llsc_base.specs.declared.outside.Stop.{Stop}
use Rattle.guest_calls.specs.Run.{Ends}
use Rattle.guest_calls.specs.Pairs.{pairs_in}
use Rattle.guest_thread.specs.Start.{thread_start}
use Rattle.guest_core.specs.Machine.{InstructionSet}

module _ {I S : Type 0} (set : InstructionSet I S) where
  -- a thread's accesses among these are those of a run that has ended
  pub record HasEnded (program : Program) (size : Numbers) (budget : ℕ) (accesses : List Access) (t : ℕ) : Type 0 where
    pub stop : Stop
    pub steps : ℕ
    pub output : List ℕ
    pub ends : Ends set program budget (thread_start set program size size.threads t) (pairs_in t accesses) stop steps output
