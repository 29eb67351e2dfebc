-- What comes of a run of all guest threads on a memory whose classes of rows take a limited number of writes.
use Rattle.std.specs.Prelude.{◌≡◌, ℕ, ◌≤◌, Some, List, length, slice_get}
use Rattle.llsc_base.specs.Images.{Program}
use Rattle.llsc_base.specs.Memory.{row_of}
use Rattle.llsc_base.specs.Sizes.{Numbers}
use Rattle.history.specs.Cause.{writes_in_class}
use Rattle.history.specs.Legal.{IsLegal, IsComplete}
use Rattle.history.specs.Marked.{byte_place}
use Rattle.history.specs.Started.{AreBorn}
use Rattle.history.specs.declared.entry.Entry.{Entry}
use Rattle.llsc_base.specs.declared.outside.Stop.TheVariants.{Exit, TagLimit}
use Rattle.guest_core.specs.Machine.{MachineOf, InstructionSet}
use Rattle.guest_calls.specs.Run.{EndsOn}
use Rattle.guest_calls.specs.Pairs.{pairs_of}
use Rattle.guest_thread.specs.Counting.{AreCounts, counts_in}
use Rattle.guest_thread.specs.Start.{thread_start}
use Rattle.guest_thread.specs.declared.ends.GuestEnd.{GuestEnd}

-- the class of an address's row has had as many Writes in a history as it may have
abbrev pub IsSpent : Numbers → List Entry → ℕ → Type 0
IsSpent size history addr = size.limit ≤ writes_in_class size (row_of size.granule (byte_place addr)) history

-- a thread's stop, its steps and its output are those of its run with its accesses in the history; where it was stopped at a
-- store, the class of the store has no write left; and its counts are those of its accesses
pub record IsEndOn {I S : Type 0} (set : InstructionSet I S) (program : Program) (size : Numbers) (budget : ℕ) (start : MachineOf I S) (history : List Entry) (end : GuestEnd) : Type 0 where
  pub ends : EndsOn set program budget start (pairs_of end.thread history) end.stop end.steps end.out
  pub spent : (addr : ℕ) → end.stop ≡ TagLimit addr → IsSpent size history addr
  pub counts : AreCounts end.thread history (counts_in end)

module _ {I S : Type 0} (set : InstructionSet I S) where
  -- the ends of all threads, each of which began by itself, in order of number
  pub record AreEndsOn (program : Program) (size : Numbers) (budget : ℕ) (history : List Entry) (all : List GuestEnd) : Type 0 where
    pub many : length all ≡ size.threads
    pub numbers : (t : ℕ) (end : GuestEnd) → slice_get all t ≡ Some end → end.thread ≡ t
    pub each : (t : ℕ) (end : GuestEnd) → slice_get all t ≡ Some end
        → IsEndOn set program size budget (thread_start set program size size.threads t) history end

  -- these are the ends of all threads in a legal and complete history, from the program's memory on, in which no thread starts another
  pub record IsOutcome (program : Program) (size : Numbers) (budget : ℕ) (history : List Entry) (all : List GuestEnd) : Type 0 where
    pub legal : IsLegal size program.bytes history
    pub complete : IsComplete history
    pub born : AreBorn size.threads 0 history
    pub ends : AreEndsOn program size budget history all

-- each thread left by an exit call with code 0
abbrev pub HaveLeft : List GuestEnd → Type 0
HaveLeft all = (t : ℕ) (end : GuestEnd) → slice_get all t ≡ Some end → end.stop ≡ Exit 0
