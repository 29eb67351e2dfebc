-- How a guest thread ended, in a history of memory.
use Rattle.std.specs.Prelude.{ℕ, List}
use Rattle.llsc_base.specs.Images.{Program}
use Rattle.history.specs.declared.entry.Entry.{Entry}
use Rattle.guest_core.specs.Machine.{MachineOf, InstructionSet}
use Rattle.guest_calls.specs.Run.{Ends}
use Rattle.guest_calls.specs.Pairs.{pairs_of}
use Rattle.guest_thread.specs.Counting.{AreCounts, counts_in}
use Rattle.guest_thread.specs.declared.ends.GuestEnd.{GuestEnd}

module _ {I S : Type 0} (set : InstructionSet I S) where
  -- its stop, its steps and its output are those of its run with its accesses in the history, and its counts are theirs
  pub record IsEndIn (program : Program) (budget : ℕ) (start : MachineOf I S) (history : List Entry) (end : GuestEnd) : Type 0 where
    pub ends : Ends set program budget start (pairs_of end.thread history) end.stop end.steps end.out
    pub counts : AreCounts end.thread history (counts_in end)
