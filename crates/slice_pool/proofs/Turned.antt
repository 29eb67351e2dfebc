-- One slice of a guest.
use Rattle.std.proofs.Common.{◌≡◌, ◌⊎◌, inl, inr, ⊎_elim, ℕ, suc, ◌+◌, ◌++◌, ◌-◌, ◌*◌, ◌<◌, ◌≤◌, Bool, false, List, ap, arith, refl, subst, sym, ◌∙◌, suc-mul}
use Rattle.std.proofs.lemmas.Bool.{cases_lt}
use Rattle.atomic_table.specs.Seated.{TableId}
use Rattle.llsc_base.specs.Images.{Program}
use Rattle.llsc_base.specs.Limits.{most_budget}
use Rattle.llsc_base.specs.declared.outside.Stop.{Stop}
use Rattle.llsc_base.specs.declared.outside.Stop.TheVariants as stop
use Rattle.history.specs.declared.entry.Entry.{Entry}
use Rattle.shared_memory.specs.Origin.{Origin}
use Rattle.shared_memory.specs.Seen.{IsSingle}
use Rattle.guest_calls.specs.Pairs.{pairs_of}
use Rattle.guest_calls.specs.Run.{first_point, Reaches, EndsOn}
use Rattle.guest_thread.specs.Counting.{AreCounts, counts_in}
use Rattle.guest_thread.specs.inner.Crews.{IsEndOf}
use Rattle.guest_thread.specs.Outcome.{IsEndOn}
use Rattle.guest_thread.specs.Pieces.{IsPiece, counts_by}
use Rattle.guest_thread.specs.Start.{thread_start}
use Rattle.guest_thread.specs.declared.pieces.Part.{Part}
use Rattle.guest_thread.specs.declared.pieces.Paused.TheVariants.{Ended, Pause}
use Rattle.guest_thread.specs.declared.running.Finished.{Finished}
use Rattle.a32_step.specs.Machine.{a32, Machine}
use Rattle.a32_step.proofs.Tested.{next_room}
use Rattle.guest_thread.proofs.Counted.{still_counts}
use Rattle.guest_thread.proofs.FewAccesses.{few_counted, few_in_history}
use Rattle.slice_pool.specs.inner.Hands.{key_of}
use Rattle.slice_pool.specs.Over.{AreTurnsOf, last_step}
use Rattle.slice_pool.specs.inner.Over.{IsGoneFrom, IsUpto}
use Rattle.slice_pool.specs.inner.Rule.{IsGuestUnderWay}
use Rattle.slice_pool.specs.declared.queue.Waiting.{Waiting}
use Rattle.slice_pool.specs.declared.views.Key.{Key}

-- one slice more
one_turn : (slice turns : ℕ) → (turns + 1) * slice ≡ turns * slice + slice
one_turn slice turns = let more : turns + 1 ≡ suc turns = omega arith in ap (λ n. n * slice) more ∙ (let s = suc-mul turns slice in omega (arith, s))

-- ---- the step at which a thread stopped

-- a stop behind the last step
abbrev IsBehind : Stop → Type 0
IsBehind (stop.Exit code) = Unit {0}
IsBehind stop.Budget = Unit {0}
IsBehind _ = ⊥

behind : (why : Stop) → (why ≡ stop.Budget) ⊎ ((code : ℕ) × (why ≡ stop.Exit code)) → IsBehind why
behind why (inl spent) = subst IsBehind (sym spent) tt
behind why (inr exit) = subst IsBehind (sym exit.1) tt

-- it's none of those before
no_earlier : (why : Stop) (from steps budget : ℕ) → from ≤ budget - 1 → from ≤ steps → ((code : ℕ) → why ≡ stop.Exit code → from < steps)
    → (why ≡ stop.Budget → steps ≡ budget) → from ≤ last_step why steps
no_earlier (stop.Exit code) from steps budget within least left used = let less = left code refl in omega (arith, less)
no_earlier stop.Budget from steps budget within least left used = let all = used refl in omega (arith, within, all)
no_earlier (stop.Undefined addr) from steps budget within least left used = least
no_earlier (stop.Unpredictable addr) from steps budget within least left used = least
no_earlier (stop.Alignment addr) from steps budget within least left used = least
no_earlier (stop.Outside addr) from steps budget within least left used = least
no_earlier (stop.ReadOnly addr) from steps budget within least left used = least
no_earlier (stop.Thumb addr) from steps budget within least left used = least
no_earlier (stop.TagLimit addr) from steps budget within least left used = least

-- fewer than so many
fewer : (steps bound : ℕ) → steps ≤ bound → (steps ≡ bound → ⊥) → steps < bound
fewer steps bound most none = ⊎_elim (λ less. less) (λ all. absurd (none (omega (arith, most, all)))) (cases_lt steps bound)

-- nor one that its slice doesn't have
no_later : (why : Stop) (steps bound : ℕ) → 1 ≤ bound → steps ≤ bound → (steps ≡ bound → IsBehind why) → last_step why steps < bound
no_later (stop.Exit code) steps bound some most last = omega (arith, some, most)
no_later stop.Budget steps bound some most last = omega (arith, some, most)
no_later (stop.Undefined addr) steps bound some most last = fewer steps bound most last
no_later (stop.Unpredictable addr) steps bound some most last = fewer steps bound most last
no_later (stop.Alignment addr) steps bound some most last = fewer steps bound most last
no_later (stop.Outside addr) steps bound some most last = fewer steps bound most last
no_later (stop.ReadOnly addr) steps bound some most last = fewer steps bound most last
no_later (stop.Thumb addr) steps bound some most last = fewer steps bound most last
no_later (stop.TagLimit addr) steps bound some most last = fewer steps bound most last

-- ---- a slice

-- the slices of one that has stopped in its last
turns_to : (slice turns steps last : ℕ) → steps ≡ turns * slice → steps ≤ last → last < steps + slice → AreTurnsOf slice (turns + 1) last
turns_to slice turns steps last were least most = record {
  least =
      let one : turns + 1 - 1 ≡ turns = omega arith in
      let e : (turns + 1 - 1) * slice ≡ turns * slice = ap (λ n. n * slice) one in
      omega (arith, e, were, least);
  most = let o = one_turn slice turns in omega (arith, o, were, most);
}

module _ {P : Type 0} (home : P → TableId) (numbers : P → ℕ → Bool) (seen : P → List Entry) (mem : TableId) (origin : Origin) (program : Program) (slice budget : ℕ) where
  abbrev key : Key
  key = key_of mem program origin.size slice budget

  -- it pauses
  pub paused : (x : Waiting P) (upto : ℕ) (part : Part P Machine) → IsUpto slice budget x.part.steps upto → IsGuestUnderWay home numbers seen key x
      → IsPiece a32 (λ m. m) home numbers seen mem origin program false upto budget x.thread x.part (Pause part)
      → IsGuestUnderWay home numbers seen key (record { part = part; thread = x.thread; turns = x.turns + 1 })
  paused x upto part to was goes =
      let start = thread_start a32 program origin.size origin.size.threads x.thread in
      let comes : Reaches a32 program budget start (pairs_of x.thread (seen x.part.pass) ++ goes.pairs) part.cpu part.steps part.out =
      goes.comes (first_point start) (pairs_of x.thread (seen x.part.pass)) was.reached in
      let steps : part.steps ≡ x.part.steps + slice = goes.stands.steps ∙ to.whole goes.stands.within in
      record {
        memory = goes.memory;
        single = goes.single;
        known = was.known;
        between = goes.stands.between;
        reached = subst (λ pairs. Reaches a32 program budget start pairs part.cpu part.steps part.out) (sym goes.added) comes;
        counts = still_counts x.thread (seen x.part.pass) (seen part.pass) (counts_by x.part) (counts_by part) goes.front goes.counts was.counts;
        few = goes.stands.few;
        turns = steps ∙ ap (λ n. n + slice) was.turns ∙ sym (one_turn slice x.turns);
        within = let s = goes.stands.steps in let w = goes.stands.within in omega (arith, s, w);
      }

  -- how it ended, by what its pass has seen
  ended_on : (x : Waiting P) (upto : ℕ) (done : Finished P) → IsGuestUnderWay home numbers seen key x
      → IsPiece a32 (λ m. m) home numbers seen mem origin program false upto budget x.thread x.part (Ended done)
      → IsEndOn a32 program origin.size budget (thread_start a32 program origin.size origin.size.threads x.thread) (seen done.pass) done.end
  ended_on x upto done was goes =
      let start = thread_start a32 program origin.size origin.size.threads x.thread in
      let comes : EndsOn a32 program budget start (pairs_of x.thread (seen x.part.pass) ++ goes.pairs) done.end.stop done.end.steps done.end.out =
      goes.comes (first_point start) (pairs_of x.thread (seen x.part.pass)) was.reached in
      let thread : x.thread ≡ done.end.thread = sym goes.stands.thread in
      record {
        ends = subst (λ u. EndsOn a32 program budget start (pairs_of u (seen done.pass)) done.end.stop done.end.steps done.end.out) thread
            (subst (λ pairs. EndsOn a32 program budget start pairs done.end.stop done.end.steps done.end.out) (sym goes.added) comes);
        spent = goes.stands.spent;
        counts = subst (λ u. AreCounts u (seen done.pass) (counts_in done.end)) thread
            (still_counts x.thread (seen x.part.pass) (seen done.pass) (counts_by x.part) (counts_in done.end) goes.front goes.counts was.counts);
      }

  ended_as : (x : Waiting P) (upto : ℕ) (done : Finished P) → origin.first ≡ origin.size.threads → budget ≤ most_budget → IsGuestUnderWay home numbers seen key x
      → IsPiece a32 (λ m. m) home numbers seen mem origin program false upto budget x.thread x.part (Ended done)
      → IsEndOf a32 program origin budget (seen done.pass) x.thread done.end
  ended_as x upto done begin small was goes =
      let start = thread_start a32 program origin.size origin.size.threads x.thread in
      let on = ended_on x upto done was goes in
      record {
        thread = goes.stands.thread;
        end_on = subst (λ n. IsEndOn a32 program origin.size budget (thread_start a32 program origin.size n x.thread) (seen done.pass) done.end) (sym begin) on;
        spends = goes.stands.spends;
        few = few_counted a32 program origin.size budget start (seen done.pass) done.end small on (few_in_history a32 next_room program origin.size budget start (seen done.pass) done.end refl on);
      }

  -- it ends
  pub ended : (x : Waiting P) (upto : ℕ) (done : Finished P) → 1 ≤ slice → origin.first ≡ origin.size.threads → budget ≤ most_budget → IsUpto slice budget x.part.steps upto
      → IsGuestUnderWay home numbers seen key x → IsPiece a32 (λ m. m) home numbers seen mem origin program false upto budget x.thread x.part (Ended done)
      → IsGoneFrom home numbers seen origin key x.thread (record { pass = done.pass; end = done.end; turns = x.turns + 1 })
  ended x upto done some begin small to was goes =
      let t : x.thread ≡ done.end.thread = sym goes.stands.thread in
      let most = goes.stands.most in
      let within = to.most in
      let since = no_earlier done.end.stop x.part.steps done.end.steps budget was.within goes.stands.least goes.stands.left goes.stands.used in
      let before = no_later done.end.stop done.end.steps (x.part.steps + slice) (omega (arith, some)) (omega (arith, most, within))
      (λ all. behind done.end.stop (goes.stands.last (omega (arith, most, within, all)))) in (
        record {
          memory = goes.memory;
          single = subst (λ u. IsSingle u (numbers done.pass)) t goes.single;
          known = subst (λ u. u < origin.size.threads) t was.known;
          end = subst (λ u. IsEndOf a32 program origin budget (seen done.pass) u done.end) t (ended_as x upto done begin small was goes);
          turns = turns_to slice x.turns x.part.steps (last_step done.end.stop done.end.steps) was.turns since before;
        },
        goes.stands.thread,
      )
