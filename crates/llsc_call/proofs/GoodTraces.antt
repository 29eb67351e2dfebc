-- The record of a trace is good.
use Rattle.std.proofs.Common.{◌≡◌, ℕ, Bool, true, false, if◌then◌else◌, List, [], refl, sym, subst}
use Rattle.llsc_base.specs.Images.{Program}
use Rattle.llsc_base.specs.Memory.{row_of}
use Rattle.llsc_base.specs.Sizes.{Numbers}
use Rattle.history.specs.Monitor.{Monitor, is_on, marked_row}
use Rattle.history.specs.declared.entry.Access.{Access}
use Rattle.history.specs.declared.entry.Deed.{Deed}
use Rattle.history.specs.declared.entry.Deed.TheVariants as deed
use Rattle.llsc_base.specs.declared.outside.Ask.{Ask}
use Rattle.llsc_base.specs.declared.outside.Ask.TheVariants.{Load, LoadEx, Store, StoreEx, Clear}
use Rattle.guest_machine.specs.Turns.{Takes, begins, makes, stops, IsTrace}
use Rattle.guest_thread.specs.Accesses.{access_by, monitor_of}
use Rattle.guest_machine.proofs.AllEnded.{all_ended}
use Rattle.guest_machine.proofs.Pushed.{made_by}
use Rattle.run_checker.specs.Verdict.{fits, is_asked, is_load, AreRight, AsksNext, HasWrongValue, IsRight, Judges, LacksMark, good}
use Rattle.run_checker.specs.declared.verdicts.Verdict.TheVariants as verdict
use Rattle.run_checker.proofs.OwnAsks.{same_place, same_store}
use Rattle.run_checker.proofs.Right.{right_none, right_push}
use Rattle.a32_step.specs.Machine.{a32}

-- ---- the access that memory makes of what is asked

-- a store-exclusive stores, or fails
abbrev store_or_fail : Bool → Deed
store_or_fail marked = if marked then deed.StoreEx else deed.StoreFail

-- it is what was asked
asked_by : (monitor : Monitor) (t : ℕ) (ask : Ask) → is_asked ask (access_by monitor t ask) ≡ true
asked_by monitor t (Load place) = same_place place
asked_by monitor t (LoadEx place) = same_place place
asked_by monitor t (Store place value) = same_store place value
asked_by monitor t (StoreEx place value) = exclusive (is_on (row_of monitor.granule place) (marked_row monitor t))
  where
    exclusive : (marked : Bool) → fits (StoreEx place value) (store_or_fail marked) place value ≡ true
    exclusive true = same_store place value
    exclusive false = same_store place value
asked_by monitor t Clear = refl

-- its value is memory's, where it is a load
value_by : (monitor : Monitor) (t : ℕ) (ask : Ask) → HasWrongValue monitor (access_by monitor t ask) → ⊥
value_by monitor t (Load place) wrong = wrong.1 refl
value_by monitor t (LoadEx place) wrong = wrong.1 refl
value_by monitor t (Store place value) wrong = let load : false ≡ true = wrong.0 in cc
value_by monitor t (StoreEx place value) wrong = exclusive (is_on (row_of monitor.granule place) (marked_row monitor t)) wrong.0
  where
    exclusive : (marked : Bool) → is_load (store_or_fail marked) ≡ true → ⊥
    exclusive true load = cc
    exclusive false load = cc
value_by monitor t Clear wrong = let load : false ≡ true = wrong.0 in cc

-- and its thread is marked on the row, where it is a store-exclusive that stores
reserved_by : (monitor : Monitor) (t : ℕ) (ask : Ask) → LacksMark monitor (access_by monitor t ask) → ⊥
reserved_by monitor t (Load place) lacks = let stores : deed.Load ≡ deed.StoreEx = lacks.0 in cc
reserved_by monitor t (LoadEx place) lacks = let stores : deed.LoadEx ≡ deed.StoreEx = lacks.0 in cc
reserved_by monitor t (Store place value) lacks = let stores : deed.Store ≡ deed.StoreEx = lacks.0 in cc
reserved_by monitor t (StoreEx place value) lacks = exclusive (is_on (row_of monitor.granule place) (marked_row monitor t)) lacks.0 lacks.1
  where
    exclusive : (marked : Bool) → store_or_fail marked ≡ deed.StoreEx → marked ≡ false → ⊥
    exclusive true stores unmarked = cc
    exclusive false stores unmarked = cc
reserved_by monitor t Clear lacks = let stores : deed.Clear ≡ deed.StoreEx = lacks.0 in cc

-- ---- traces

module _ (program : Program) (size : Numbers) (budget : ℕ) where
  -- what memory makes of a thread's next ask is right
  made_right : (accesses : List Access) (t : ℕ) (ask : Ask) → AsksNext a32 program size budget accesses t ask
      → IsRight a32 program size budget accesses (access_by (monitor_of program size accesses) t ask)
  made_right accesses t ask next =
      let monitor : Monitor = monitor_of program size accesses in
      record {
        ask = ask;
        next = subst (λ u. AsksNext a32 program size budget accesses u ask) (sym (made_by monitor t ask)) next;
        asked = asked_by monitor t ask;
        value = value_by monitor t ask;
        reserved = reserved_by monitor t ask;
      }

  -- the accesses of turns are right
  turns_right : (seed x : ℕ) (live : List ℕ) (accesses : List Access) → Takes a32 program size seed budget x live accesses → AreRight a32 program size budget accesses
  turns_right seed _ _ _ begins = right_none a32 program size budget
  turns_right seed _ _ _ (makes x live accesses t ask before turn asks) =
      right_push a32 program size budget accesses (access_by (monitor_of program size accesses) t ask)
      (turns_right seed x live accesses before) (made_right accesses t ask asks)
  turns_right seed _ _ _ (stops x live accesses t stop steps output before turn ends) = turns_right seed x live accesses before

-- a trace's record is good
pub trace_good : (program : Program) (size : Numbers) (seed budget : ℕ) (accesses : List Access) → IsTrace a32 program size seed budget accesses
    → Judges a32 program size budget accesses verdict.Good
trace_good program size seed budget accesses trace =
    good (turns_right program size budget seed trace.0 [] accesses trace.1)
    (λ t known. all_ended a32 program size seed budget accesses t known trace)
