-- The end of a thread's run over a memory that threads share.
use Rattle.std.proofs.Common.{◌≡◌, inl, inr, ℕ, true, false, List, [], sym, subst, ap, ◌∙◌}
use Rattle.llsc_base.specs.Images.{Program}
use Rattle.history.specs.declared.entry.Entry.{Entry}
use Rattle.llsc_base.specs.declared.outside.Stop.{Stop}
use Rattle.llsc_base.specs.declared.outside.Stop.TheVariants.{TagLimit}
use Rattle.llsc_base.specs.declared.outside.Ask.{Ask}
use Rattle.llsc_base.specs.Effects.{asks, stops}
use Rattle.guest_core.specs.Machine.{MachineOf, InstructionSet, next_of, between, GoesOn, IsOwn, PassesTests}
use Rattle.guest_calls.specs.Pairs.{pairs_of}
use Rattle.guest_calls.specs.Run.{Pair, first_point, EndsOn, by_itself}
use Rattle.guest_thread.specs.Counting.{AreCounts, counts_in}
use Rattle.guest_thread.specs.Outcome.{IsSpent, IsEndOn}
use Rattle.guest_thread.specs.Ports.{EndsBy}
use Rattle.guest_thread.specs.inner.Sharing.{SharingState, RepliesSharing, RefusesAt}
use Rattle.guest_core.specs.Ports.{Leads}
use Rattle.atomic_table.specs.Seated.{TableId}
use Rattle.history.specs.Parts.{entries_of}
use Rattle.shared_memory.specs.Origin.{Origin}
use Rattle.guest_thread.specs.ThreadState.{ThreadOf}
use Rattle.guest_thread.specs.declared.ends.GuestEnd.{GuestEnd}
use Rattle.guest_thread.proofs.Placed.{ends_untagged_from}
use Rattle.guest_thread.proofs.Shared.{HasShared, after_all, counts_alone, pairs_alone}

same_limit : (addr other : ℕ) → TagLimit addr ≡ TagLimit other → addr ≡ other
same_limit addr other same = cc

-- ---- a stop at a store that memory refused

module _ {I S : Type 0} (set : InstructionSet I S)
    (passes : (program : Program) (machine : MachineOf I S) (asked : Ask) → GoesOn machine.phase → next_of set program machine ≡ asks asked → PassesTests program asked)
    (own : (program : Program) (machine : MachineOf I S) (why : Stop) → GoesOn machine.phase → next_of set program machine ≡ stops why → IsOwn why)
    (program : Program) (budget : ℕ) (start : MachineOf I S) (between_two : start ≡ between start.state) where
  refused_by : (refuses : ℕ → Type 0) (pairs : List Pair) (stop : Stop) (steps : ℕ) (output : List ℕ) (addr : ℕ)
      → EndsBy set refuses program budget start pairs stop steps output → stop ≡ TagLimit addr → refuses addr
  refused_by refuses pairs stop steps output addr (inl ends) is =
      absurd (ends_untagged_from set passes own false program budget (first_point start) (subst (λ (m : MachineOf I S). GoesOn m.phase) (sym between_two) tt) pairs stop steps output addr ends is)
  refused_by refuses pairs stop steps output addr (inr refused) is =
      subst refuses (same_limit refused.0 addr (sym refused.1.1 ∙ is)) refused.1.0

  ends_on : (refuses : ℕ → Type 0) (pairs : List Pair) (stop : Stop) (steps : ℕ) (output : List ℕ)
      → EndsBy set refuses program budget start pairs stop steps output → EndsOn set program budget start pairs stop steps output
  ends_on refuses pairs stop steps output (inl ends) = by_itself pairs stop steps output ends
  ends_on refuses pairs stop steps output (inr refused) = refused.1.2

  -- the end is that of the thread's run with its accesses
  pub end_on : (first last : SharingState) (pairs : List Pair) (end : GuestEnd) → HasShared first pairs last → entries_of first.thread first.seen ≡ []
      → first.counts ≡ record { reads = 0; writes = 0; fails = 0 } → end.thread ≡ first.thread → counts_in end ≡ last.counts → EndsBy set (RefusesAt last) program budget start pairs end.stop end.steps end.out
      → IsEndOn set program first.origin.size budget start last.seen end
  end_on first last pairs end shared none zero thread counts ends = record {
    ends = subst (λ p. EndsOn set program budget start p end.stop end.steps end.out)
        (sym (pairs_alone first last pairs shared none) ∙ ap (λ t. pairs_of t last.seen) (sym thread))
        (ends_on (RefusesAt last) pairs end.stop end.steps end.out ends);
    spent = λ addr is. subst (λ o. IsSpent o.size last.seen addr) shared.goes_on.origin (refused_by (RefusesAt last) pairs end.stop end.steps end.out addr ends is).1;
    counts = subst (λ t. AreCounts t last.seen (counts_in end)) (sym thread) (subst (AreCounts first.thread last.seen) (sym counts) (counts_alone first last pairs shared none zero));
  }

  -- a store is refused only where the memory counts a class's writes
  pub spends_at : (first last : SharingState) (pairs : List Pair) (stop : Stop) (steps : ℕ) (output : List ℕ) (addr : ℕ) → HasShared first pairs last
      → EndsBy set (RefusesAt last) program budget start pairs stop steps output → stop ≡ TagLimit addr → first.origin.spends ≡ true
  spends_at first last pairs stop steps output addr shared ends is =
      ap (λ o. o.spends) (sym shared.goes_on.origin) ∙ (refused_by (RefusesAt last) pairs stop steps output addr ends is).0

-- ---- from its start

abbrev pub at_start : (mem : TableId) (origin : Origin) (thread : ℕ) (seen : List Entry) → SharingState
at_start mem origin thread seen = record { memory = mem; origin = origin; thread = thread; seen = seen; counts = record { reads = 0; writes = 0; fails = 0 } }

pub shared_from : (mem : TableId) (origin : Origin) (thread : ℕ) (seen : List Entry) (first last : SharingState) (pairs : List Pair)
    → first ≡ at_start mem origin thread seen → Leads RepliesSharing first pairs last
    → HasShared (at_start mem origin thread seen) pairs last
shared_from mem origin thread seen first last pairs is leads =
    after_all (at_start mem origin thread seen) pairs last (subst (λ s. Leads RepliesSharing s pairs last) is leads)

-- where the end has what the guest and its part have
pub ends_as : {I S : Type 0} (set : InstructionSet I S) (refuses : ℕ → Type 0) (program : Program) (budget : ℕ) (start : MachineOf I S) (pairs : List Pair) (stop : Stop) (steps : ℕ) (output : List ℕ) (guest : ThreadOf I S)
    → steps ≡ guest.steps → output ≡ guest.output → EndsBy set refuses program budget start pairs stop guest.steps guest.output
    → EndsBy set refuses program budget start pairs stop steps output
ends_as set refuses program budget start pairs stop steps output guest steps_are output_is ends =
    subst (λ n. EndsBy set refuses program budget start pairs stop n output) (sym steps_are)
    (subst (λ o. EndsBy set refuses program budget start pairs stop guest.steps o) (sym output_is) ends)
