-- A guest at its start is under way.
use Rattle.std.proofs.Common.{◌≡◌, ℕ, ◌*◌, All, Bool, List, [], ◌∷◌, map, ap, arith, subst, sym, ◌∙◌, refl}
use Rattle.std.proofs.lemmas.List.Elements.{All-head, All-nil, All-tail, All-cons}
use Rattle.atomic_table.specs.Seated.{TableId}
use Rattle.llsc_base.specs.Images.{Program}
use Rattle.history.specs.Parts.{accesses_of}
use Rattle.history.specs.declared.entry.Entry.{Entry}
use Rattle.shared_memory.specs.Origin.{Origin}
use Rattle.a32_step.specs.Machine.{Machine, a32}
use Rattle.guest_core.specs.Machine.{between}
use Rattle.guest_calls.specs.Pairs.{pair_of, pairs_of}
use Rattle.guest_calls.specs.Run.{Pair, begins, Reaches}
use Rattle.guest_thread.specs.Counts.{reads_of, writes_of, fails_of}
use Rattle.guest_thread.specs.Start.{thread_start}
use Rattle.slice_pool.specs.inner.Hands.{key_of}
use Rattle.slice_pool.specs.Pools.{IsFreshGuest}
use Rattle.slice_pool.specs.inner.Rule.{IsGuestUnderWay}
use Rattle.slice_pool.specs.declared.queue.Waiting.{Waiting}

-- no access, no step, nothing written: a run that has begun
has_begun : (program : Program) (budget : ℕ) (start cpu : Machine) (pairs : List Pair) (steps : ℕ) (out : List ℕ) → pairs ≡ [] → cpu ≡ start → steps ≡ 0 → out ≡ []
    → Reaches a32 program budget start pairs cpu steps out
has_begun program budget start cpu pairs steps out none at zeroth nothing =
    subst (λ l. Reaches a32 program budget start l cpu steps out) (sym none)
    (subst (λ m. Reaches a32 program budget start [] m steps out) (sym at)
    (subst (λ n. Reaches a32 program budget start [] start n out) (sym zeroth)
    (subst (Reaches a32 program budget start [] start 0) (sym nothing) begins)))

module _ {P : Type 0} (home : P → TableId) (numbers : P → ℕ → Bool) (seen : P → List Entry) (mem : TableId) (origin : Origin) (program : Program) (slice budget : ℕ) where
  under_way : (x : Waiting P) → IsFreshGuest home numbers seen mem origin program x → IsGuestUnderWay home numbers seen (key_of mem program origin.size slice budget) x
  under_way x is = record {
    memory = is.memory;
    single = is.single;
    known = is.known;
    between = subst (λ m. m ≡ between m.state) (sym is.start) refl;
    reached = has_begun program budget (thread_start a32 program origin.size origin.size.threads x.thread) x.part.cpu (pairs_of x.thread (seen x.part.pass)) x.part.steps x.part.out
        (ap (λ l. map pair_of (accesses_of l)) is.none) is.start is.steps is.empty;
    counts = record {
      reads = is.uncounted.0 ∙ sym (ap reads_of is.none);
      writes = is.uncounted.1 ∙ sym (ap writes_of is.none);
      fails = is.uncounted.2 ∙ sym (ap fails_of is.none);
    };
    few = let r = is.uncounted.0 in let w = is.uncounted.1 in let f = is.uncounted.2 in omega (arith, r, w, f);
    turns = let none : 0 * slice ≡ 0 = omega arith in is.steps ∙ sym (ap (λ n. n * slice) is.turns ∙ none);
    within = let s = is.steps in omega (arith, s);
  }

  pub all_under_way : (xs : List (Waiting P)) → All (IsFreshGuest home numbers seen mem origin program) xs
      → All (IsGuestUnderWay home numbers seen (key_of mem program origin.size slice budget)) xs
  all_under_way [] all = All-nil (IsGuestUnderWay home numbers seen (key_of mem program origin.size slice budget))
  all_under_way (x ∷ xs) all =
      All-cons (IsGuestUnderWay home numbers seen (key_of mem program origin.size slice budget)) x xs
      (under_way x (All-head (IsFreshGuest home numbers seen mem origin program) x xs all))
      (all_under_way xs (All-tail (IsFreshGuest home numbers seen mem origin program) x xs all))
