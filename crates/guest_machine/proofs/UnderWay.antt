-- A thread alone under way: what its memory has made so far, and its end.
use Rattle.std.proofs.Common.{◌≡◌, ℕ, ◌+◌, ◌≤◌, arith, Bool, true, false, if◌then◌else◌, List, [], ◌∷◌, ◌++◌, refl, sym, ◌∙◌, ap, subst, inl, inr}
use Rattle.guest_calls.specs.Run.{Pair, Ends}
use Rattle.guest_thread.specs.Ports.{EndsBy}
use Rattle.guest_core.specs.Ports.{Leads, goes, refused, stays}
use Rattle.guest_machine.specs.inner.Served.{IsServedAlone, RepliesAlone}
use Rattle.guest_machine.specs.Alone.{IsHistoryAlone, FailsUnmarked, AllFailUnmarked, IsEndAlone}
use Rattle.llsc_base.specs.Images.{Program}
use Rattle.llsc_base.specs.Memory.{row_of}
use Rattle.history.specs.ArmLegal.{MayAccess}
use Rattle.history.specs.Monitor.{Monitor, accessed, at_rest_by, is_on, marked_row, monitor_after}
use Rattle.history.specs.declared.entry.Access.{Access}
use Rattle.history.specs.declared.entry.Deed.TheVariants as deed
use Rattle.history.specs.declared.entry.Entry.{Entry}
use Rattle.history.specs.declared.entry.Entry.TheVariants as entry
use Rattle.guest_thread.specs.Counts.{reads_in, writes_in, fails_in}
use Rattle.history.proofs.Appends.{monitor_after-push, IsArmLegal-push}
use Rattle.llsc_base.specs.declared.outside.Ask.{Ask}
use Rattle.llsc_base.specs.declared.outside.Ask.TheVariants.{Load, LoadEx, Store, StoreEx, Clear}
use Rattle.llsc_base.specs.declared.outside.Stop.{Stop}
use Rattle.guest_core.specs.Machine.{MachineOf, InstructionSet}
use Rattle.guest_calls.specs.Pairs.{pairs_of, reply_of}
use Rattle.guest_thread.proofs.Pushed.{thread_is}
use Rattle.history.specs.Accesses.{entry_of, entry_by}
use Rattle.guest_thread.specs.ThreadState.{ThreadOf}
use Rattle.guest_thread.specs.Accesses.{access_by}
use Rattle.guest_thread.specs.Counting.{AreCounts, accesses_counted}
use Rattle.guest_machine.specs.declared.alone.Alone.{Alone}
use Rattle.guest_thread.proofs.Counted.{own_counted}
use Rattle.guest_machine.proofs.Pushed.{made_by, own_asked_push}

-- a store-exclusive of memory's fails only where its thread isn't marked
pub unmarked : (m : Monitor) (t : ℕ) (ask : Ask) → FailsUnmarked m (entry_of (access_by m t ask))
unmarked m t (Load place) = tt
unmarked m t (LoadEx place) = tt
unmarked m t (Store place value) = tt
unmarked m t (StoreEx place value) = by_mark (is_on (row_of m.granule place) (marked_row m t)) refl
  where
    by_mark : (b : Bool) → is_on (row_of m.granule place) (marked_row m t) ≡ b → FailsUnmarked m (entry_by (if b then deed.StoreEx else deed.StoreFail) t place value)
    by_mark true is = tt
    by_mark false is = is
unmarked m t Clear = tt

pub all_fail_push : (m : Monitor) (history : List Entry) (e : Entry) → AllFailUnmarked m history → FailsUnmarked (monitor_after m history) e
    → AllFailUnmarked m (history ++ e ∷ [])
all_fail_push m [] e all here = (here, tt)
all_fail_push m (entry ∷ history) e all here = (all.0, all_fail_push (accessed m entry) history e all.1 here)

-- a history that a thread alone may have, with these accesses and replies, this memory and these counts
pub record IsMade (granule : ℕ) (bytes : List ℕ) (pairs : List Pair) (alone : Alone) : Type 0 where
  pub history : List Entry
  pub allowed : IsHistoryAlone granule bytes history
  pub pairs_are : pairs ≡ pairs_of 0 history
  pub memory : alone.memory ≡ monitor_after (at_rest_by granule bytes 1) history
  pub counts : AreCounts 0 history alone.counts

-- before the first access
pub at_first : (granule : ℕ) (bytes : List ℕ) (alone : Alone) → alone.memory ≡ at_rest_by granule bytes 1
    → alone.counts ≡ record { reads = 0; writes = 0; fails = 0 } → IsMade granule bytes [] alone
at_first granule bytes alone memory counts = record {
  history = [];
  allowed = record { legal = tt; decided = tt };
  pairs_are = refl;
  memory = memory;
  counts = subst (AreCounts 0 []) (sym counts) (record { reads = refl; writes = refl; fails = refl });
}

-- one more access
after_access : (granule : ℕ) (bytes : List ℕ) (pairs : List Pair) (old new : Alone) (ask : Ask) (reply : ℕ)
    → IsMade granule bytes pairs old → IsServedAlone old ask reply new → IsMade granule bytes (pairs ++ (ask, reply) ∷ []) new
after_access granule bytes pairs old new ask reply way served =
    let access : Access = access_by old.memory 0 ask in
    let e : Entry = entry_of access in
    record {
      history = way.history ++ e ∷ [];
      allowed = record {
        legal = IsArmLegal-push (at_rest_by granule bytes 1) way.history e way.allowed.legal (subst (λ m. MayAccess m e) way.memory served.may);
        decided = all_fail_push (at_rest_by granule bytes 1) way.history e way.allowed.decided
            (subst (λ m. FailsUnmarked m e) way.memory (unmarked old.memory 0 ask));
      };
      pairs_are = ap (λ r. pairs ++ (ask, r) ∷ []) served.reply_is ∙ ap (λ p. p ++ (ask, reply_of access) ∷ []) way.pairs_are
          ∙ sym (own_asked_push 0 way.history old.memory ask);
      memory = served.memory ∙ ap (λ m. accessed m e) way.memory ∙ sym (monitor_after-push (at_rest_by granule bytes 1) way.history e);
      counts = own_counted 0 way.history e old.counts new.counts (thread_is access ∙ made_by old.memory 0 ask) way.counts served.reads served.writes served.fails;
    }

-- an access counts for one at most
one_of : (e : Entry) → reads_in e + writes_in e + fails_in e ≤ 1
one_of (entry.Read thread place value ex) = omega arith
one_of (entry.Write thread place value ex) = omega arith
one_of (entry.Fail thread place value cause) = omega arith
one_of (entry.Clear thread) = omega arith
one_of (entry.Watch thread place) = omega arith
one_of (entry.Miss thread place) = omega arith
one_of (entry.Begin thread place) = omega arith
one_of (entry.End thread place) = omega arith
one_of (entry.Start thread child at arg) = omega arith

pub one_counted : (old : Alone) (ask : Ask) (reply : ℕ) (new : Alone) → IsServedAlone old ask reply new → accesses_counted new.counts ≤ accesses_counted old.counts + 1
one_counted old ask reply new served =
    let one = one_of (entry_of (access_by old.memory 0 ask)) in
    omega (arith, served.reads, served.writes, served.fails, one)

-- all of them
pub after_all : (granule : ℕ) (bytes : List ℕ) (first : Alone) (pairs : List Pair) (last : Alone)
    → IsMade granule bytes [] first → Leads RepliesAlone first pairs last → IsMade granule bytes pairs last
after_all granule bytes first _ _ begun stays = begun
after_all granule bytes first _ _ begun (goes pairs between next ask reply leads served) =
    after_access granule bytes pairs between next ask reply (after_all granule bytes first pairs between begun leads) served
after_all granule bytes first _ _ begun (refused pairs between next ask leads none) = absurd none

module _ {I S : Type 0} (set : InstructionSet I S) where
  -- where no store is refused a thread ends by itself
  ended_by_itself : (program : Program) (budget : ℕ) (start : MachineOf I S) (pairs : List Pair) (stop : Stop) (steps : ℕ) (out : List ℕ)
      → EndsBy set (λ addr. ⊥) program budget start pairs stop steps out → Ends set program budget start pairs stop steps out
  ended_by_itself program budget start pairs stop steps out (inl ends) = ends
  ended_by_itself program budget start pairs stop steps out (inr limit) = absurd limit.1.0

  -- at the end
  pub end_of : (program : Program) (budget : ℕ) (start : MachineOf I S) (granule : ℕ) (bytes : List ℕ) (pairs : List Pair) (stop : Stop) (alone : Alone) (guest : ThreadOf I S) (steps : ℕ) (out : List ℕ)
      → steps ≡ guest.steps → out ≡ guest.output → IsMade granule bytes pairs alone → EndsBy set (λ addr. ⊥) program budget start pairs stop guest.steps guest.output
      → IsEndAlone set program budget start granule bytes
      (record { thread = 0; stop = stop; steps = steps; reads = alone.counts.reads; writes = alone.counts.writes; fails = alone.counts.fails; out = out })
  end_of program budget start granule bytes pairs stop alone guest steps out steps_are out_is made ends = record {
    number = refl;
    history = made.history;
    alone = made.allowed;
    end_in = record {
      ends = subst (λ n. Ends set program budget start (pairs_of 0 made.history) stop n out) (sym steps_are)
          (subst (λ o. Ends set program budget start (pairs_of 0 made.history) stop guest.steps o) (sym out_is)
          (subst (λ p. Ends set program budget start p stop guest.steps guest.output) made.pairs_are
          (ended_by_itself program budget start pairs stop guest.steps guest.output ends)));
      counts = made.counts;
    };
  }
