-- Which guest threads have begun in a history, and where: the first begin by themselves, and each other by the entry that starts it.
-- This project's own.
use Rattle.std.specs.Prelude.{ℕ, suc, zero, ◌+◌, ◌*◌, ◌<◌, nat_lt, if◌then◌else◌, Contains, Option, Some, None, List, ◌++◌, map}
use Rattle.std.specs.List.{flat_map, range_with_len}
use Rattle.llsc_base.specs.Images.{Program}
use Rattle.llsc_base.specs.Sizes.{Numbers, room_of}
use Rattle.history.specs.Started.{child_of}
use Rattle.history.specs.Starts.{starts_in}
use Rattle.history.specs.declared.entry.Entry.{Entry}
use Rattle.history.specs.declared.entry.Entry.TheVariants.{Start}
use Rattle.guest_core.specs.Machine.{MachineOf, InstructionSet, start_in}
use Rattle.guest_thread.specs.Start.{thread_start}
use Rattle.guest_thread.specs.StockRun.{Stock}

-- the threads that a thread has started, in order
abbrev pub children_of : ℕ → List Entry → List ℕ
children_of thread history = map (λ started. started.child) (starts_in thread history)

-- the threads that have begun: the first, in order of number, and behind them those that each of them has started
abbrev pub begun_in : (first : ℕ) → List Entry → List ℕ
begun_in first history = range_with_len 0 first ++ flat_map (λ thread. children_of thread history) (range_with_len 0 first)

module _ {I S : Type 0} (set : InstructionSet I S) where
  -- where a started thread begins: at the address of its start, with the argument where a first thread has its number, and its own number
  -- where that has how many begin by themselves; its stack is that of its number, as that of the first is
  abbrev pub child_start : Numbers → (child entry arg : ℕ) → MachineOf I S
  child_start size child entry arg = start_in set entry arg child (room_of size + 4096 * (child + 1))

  -- a thread begins so in a history
  pub data BeginsAs (program : Program) (size : Numbers) (first : ℕ) (history : List Entry) (thread : ℕ) : MachineOf I S → Type 0 where
    by_itself : thread < first → BeginsAs program size first history thread (thread_start set program size first thread)
    by_start : (starter entry arg : ℕ) → Contains history (Start starter thread entry arg)
        → BeginsAs program size first history thread (child_start size thread entry arg)

-- the numbers that a thread has for those that it starts: as many as are spare where it is one of the first, none where it was started.
-- Where none is spare nobody has a stock, and the call that starts a thread is unknown
abbrev pub stock_of : (first spare thread : ℕ) → Option Stock
stock_of first zero thread = None
stock_of first (suc spare) thread = Some (
    if nat_lt thread first then record { first = child_of first (suc spare) thread 0; count = suc spare }
    else record { first = 0; count = 0 }
    )
