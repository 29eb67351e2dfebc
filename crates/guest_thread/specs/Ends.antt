-- How all guest threads of a program ended, in a history of memory.
use Rattle.std.specs.Prelude.{◌≡◌, ℕ, Some, List, length, slice_get}
use Rattle.llsc_base.specs.Images.{Program}
use Rattle.llsc_base.specs.Sizes.{Numbers}
use Rattle.history.specs.declared.entry.Entry.{Entry}
use Rattle.guest_thread.specs.End.{IsEndIn}
use Rattle.guest_thread.specs.Start.{thread_start}
use Rattle.guest_thread.specs.declared.ends.GuestEnd.{GuestEnd}
use Rattle.guest_core.specs.Machine.{InstructionSet}

module _ {I S : Type 0} (set : InstructionSet I S) where
  -- the ends of all threads, each of which began by itself, in order of number
  pub record AreEnds (program : Program) (size : Numbers) (budget : ℕ) (history : List Entry) (all : List GuestEnd) : Type 0 where
    pub many : length all ≡ size.threads
    pub numbers : (t : ℕ) (end : GuestEnd) → slice_get all t ≡ Some end → end.thread ≡ t
    pub each : (t : ℕ) (end : GuestEnd) → slice_get all t ≡ Some end
        → IsEndIn set program budget (thread_start set program size size.threads t) history end
