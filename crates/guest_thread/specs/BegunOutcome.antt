-- What comes of a run of guest threads that may start others.
use Rattle.std.specs.Prelude.{◌≡◌, ℕ, All, Option, List, map}
use Rattle.llsc_base.specs.Images.{Program}
use Rattle.llsc_base.specs.Sizes.{Numbers}
use Rattle.history.specs.Legal.{IsLegal, IsComplete}
use Rattle.history.specs.Started.{AreBorn}
use Rattle.history.specs.Starts.{starts_in}
use Rattle.history.specs.declared.entry.Entry.{Entry}
use Rattle.llsc_base.specs.declared.outside.Stop.TheVariants.{TagLimit}
use Rattle.guest_core.specs.Machine.{MachineOf, InstructionSet}
use Rattle.guest_calls.specs.Pairs.{pairs_of}
use Rattle.guest_thread.specs.Begun.{BeginsAs, begun_in, stock_of}
use Rattle.guest_thread.specs.Counting.{AreCounts, counts_in}
use Rattle.guest_thread.specs.Outcome.{IsSpent}
use Rattle.guest_thread.specs.StockRun.{Stock, IsStockRun}
use Rattle.guest_thread.specs.declared.ends.GuestEnd.{GuestEnd}

module _ {I S : Type 0} (set : InstructionSet I S) where
  -- a thread's stop, its steps and its output are those of its run with its accesses in the history, in which it starts those that it
  -- starts there, each behind as many of its accesses; where it was stopped at a store, the class of the store has no write left; and
  -- its counts are those of its accesses
  pub record IsStockEndOn (stock : Option Stock) (program : Program) (size : Numbers) (budget : ℕ) (start : MachineOf I S) (history : List Entry) (end : GuestEnd) : Type 0 where
    pub ends : IsStockRun set stock program budget start (pairs_of end.thread history) (starts_in end.thread history) end.stop end.steps end.out
    pub spent : (addr : ℕ) → end.stop ≡ TagLimit addr → IsSpent size history addr
    pub counts : AreCounts end.thread history (counts_in end)

  -- a thread that has begun ended so: from where it began, with the numbers that it has for others
  pub record IsBegunEnd (program : Program) (size : Numbers) (first spare budget : ℕ) (history : List Entry) (end : GuestEnd) : Type 0 where
    pub start : MachineOf I S
    pub begins : BeginsAs set program size first history end.thread start
    pub ends : IsStockEndOn (stock_of first spare end.thread) program size budget start history end

  -- the ends of all threads that have begun, one of each, in order of number
  pub record AreBegunEnds (program : Program) (size : Numbers) (first spare budget : ℕ) (history : List Entry) (all : List GuestEnd) : Type 0 where
    pub threads : map (λ end. end.thread) all ≡ begun_in first history
    pub each : All (IsBegunEnd program size first spare budget history) all

  -- these are the ends of all threads that have begun in a legal and complete history, from the program's memory on, in which only
  -- threads act that have begun, and each of the first starts as many as are spare at most
  pub record IsOutcomeFrom (program : Program) (size : Numbers) (first spare budget : ℕ) (history : List Entry) (all : List GuestEnd) : Type 0 where
    pub legal : IsLegal size program.bytes history
    pub complete : IsComplete history
    pub born : AreBorn first spare history
    pub ends : AreBegunEnds program size first spare budget history all
