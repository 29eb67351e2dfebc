-- Whether a record is a run of a program on legal memory, and where it is wrong.
use Rattle.std.specs.Prelude.{◌≡◌, ℕ, ◌<◌, ◌==◌, ◌&&◌, ◌≢◌, Bool, true, false, List, ◌∷◌, ◌++◌, length, codes}
use Rattle.llsc_base.specs.Memory.{row_of, size_bytes, value_at}
use Rattle.llsc_base.specs.Images.{Program}
use Rattle.llsc_base.specs.Sizes.{Numbers}
use Rattle.llsc_base.specs.declared.access.Place.{Place}
use Rattle.history.specs.Monitor.{Monitor, is_on, marked_row}
use Rattle.history.specs.declared.entry.Access.{Access}
use Rattle.history.specs.declared.entry.Deed.{Deed}
use Rattle.history.specs.declared.entry.Deed.TheVariants as deed
use Rattle.llsc_base.specs.declared.outside.Ask.{Ask}
use Rattle.llsc_base.specs.declared.outside.Ask.TheVariants.{Load, LoadEx, Store, StoreEx, Clear}
use Rattle.guest_calls.specs.Run.{Asks}
use Rattle.guest_calls.specs.Pairs.{pairs_in}
use Rattle.guest_thread.specs.Start.{thread_start}
use Rattle.guest_thread.specs.Ended.{HasEnded}
use Rattle.guest_thread.specs.Accesses.{monitor_of}
use Rattle.run_checker.specs.declared.verdicts.Reason.{Reason}
use Rattle.run_checker.specs.declared.verdicts.Reason.TheVariants as reason
use Rattle.run_checker.specs.declared.verdicts.Verdict.{Verdict}
use Rattle.run_checker.specs.declared.verdicts.Verdict.TheVariants as verdict
use Rattle.guest_core.specs.Machine.{InstructionSet}

-- places are the same
abbrev pub is_place : Place → Place → Bool
is_place one other = (one.addr == other.addr) && (size_bytes one.size == size_bytes other.size)

-- An access is what was asked: its deed and its place, and the value that is stored. A store-exclusive may store or fail.
abbrev pub fits : Ask → Deed → Place → ℕ → Bool
fits (Load asked) deed.Load place value = is_place asked place
fits (LoadEx asked) deed.LoadEx place value = is_place asked place
fits (Store asked stored) deed.Store place value = is_place asked place && (stored == value)
fits (StoreEx asked stored) deed.StoreEx place value = is_place asked place && (stored == value)
fits (StoreEx asked stored) deed.StoreFail place value = is_place asked place && (stored == value)
fits Clear deed.Clear place value = true
fits _ _ place value = false

abbrev pub is_asked : Ask → Access → Bool
is_asked ask access = fits ask access.deed access.place access.value

-- a load, or a load-exclusive
abbrev pub is_load : Deed → Bool
is_load deed.Load = true
is_load deed.LoadEx = true
is_load _ = false

-- What may stand against an access that is made as asked, after the accesses before it: a load has another value than
-- memory, or a store-exclusive stores where its thread isn't marked on the row.
abbrev pub HasWrongValue : Monitor → Access → Type 0
HasWrongValue monitor access = (is_load access.deed ≡ true) × (access.value ≢ value_at monitor.memory access.place)

abbrev pub LacksMark : Monitor → Access → Type 0
LacksMark monitor access =
    (access.deed ≡ deed.StoreEx) × (is_on (row_of monitor.granule access.place) (marked_row monitor access.thread) ≡ false)

module _ {I S : Type 0} (set : InstructionSet I S) where
  -- A thread's next ask, after the accesses before.
  abbrev pub AsksNext : Program → Numbers → ℕ → List Access → ℕ → Ask → Type 0
  AsksNext program size budget before t ask = Asks set program budget (thread_start set program size size.threads t) (pairs_in t before) ask

  -- an access is what its thread asks next, and nothing stands against it
  pub record IsRight (program : Program) (size : Numbers) (budget : ℕ) (before : List Access) (access : Access) : Type 0 where
    pub ask : Ask
    pub next : AsksNext program size budget before access.thread ask
    pub asked : is_asked ask access ≡ true
    pub value : HasWrongValue (monitor_of program size before) access → ⊥
    pub reserved : LacksMark (monitor_of program size before) access → ⊥

  -- Why an access is wrong, the reasons tried in this order: its thread has ended; its thread asks something else next; it
  -- is what its thread asks next, but has a wrong value; or it is, but stores where its thread has no mark.
  abbrev pub IsWrong : Program → Numbers → ℕ → List Access → Access → Reason → Type 0
  IsWrong program size budget before access reason.AfterStop = HasEnded set program size budget before access.thread
  IsWrong program size budget before access reason.NotAsked =
      (ask : Ask) × (AsksNext program size budget before access.thread ask × (is_asked ask access ≡ false))
  IsWrong program size budget before access reason.WrongValue =
      (ask : Ask) × (AsksNext program size budget before access.thread ask × (is_asked ask access ≡ true) × HasWrongValue (monitor_of program size before) access)
  IsWrong program size budget before access reason.NoReservation =
      (ask : Ask) × (AsksNext program size budget before access.thread ask × (is_asked ask access ≡ true) × LacksMark (monitor_of program size before) access)
  IsWrong program size budget before access reason.Unfinished = ⊥

  -- each access of a list is right where it stands
  abbrev pub AreRight : Program → Numbers → ℕ → List Access → Type 0
  AreRight program size budget accesses =
      (before after : List Access) (access : Access) → accesses ≡ before ++ access ∷ after → IsRight program size budget before access

  -- The verdict on accesses of a program's threads: good, where each access is right and each thread has ended; bad at the
  -- first access that is wrong, for the first reason why; or bad behind them all, where each is right and a thread still asks.
  pub data Judges (program : Program) (size : Numbers) (budget : ℕ) (accesses : List Access) : Verdict → Type 0 where
    good : AreRight program size budget accesses
        → ((t : ℕ) → t < size.threads → HasEnded set program size budget accesses t)
        → Judges program size budget accesses verdict.Good
    wrong : (before after : List Access) (access : Access) (why : Reason)
        → accesses ≡ before ++ access ∷ after
        → AreRight program size budget before
        → IsWrong program size budget before access why
        → Judges program size budget accesses (verdict.Bad (length before) why)
    unfinished : (t : ℕ) (ask : Ask)
        → AreRight program size budget accesses
        → t < size.threads
        → AsksNext program size budget accesses t ask
        → Judges program size budget accesses (verdict.Bad (length accesses) reason.Unfinished)

-- a reason's name
abbrev pub reason_name : Reason → List ℕ
reason_name reason.AfterStop = codes "AfterStop"
reason_name reason.NotAsked = codes "NotAsked"
reason_name reason.WrongValue = codes "WrongValue"
reason_name reason.NoReservation = codes "NoReservation"
reason_name reason.Unfinished = codes "Unfinished"
