-- The jobs of threads, and their ends in a history that grows.
use Rattle.std.proofs.Common.{◌≡◌, ℕ, zero, suc, ◌+◌, ◌<◌, ◌||◌, arith, All, Bool, true, false, cond, List, [], ◌∷◌, ◌++◌, map, length, slice_get, Option, None, Some, IfSome, append-nil, refl, sym, subst, ap, ◌∙◌, zero-add}
use Rattle.std.specs.List.{range_with_len}
use Rattle.std.specs.Option.{option_to_list}
use Rattle.std.proofs.lemmas.List.{map-append}
use Rattle.std.proofs.lemmas.List.Elements.{All-head, All-nil, All-tail, All-cons}
use Rattle.std.proofs.lemmas.List.Sums.{sum_by-append}
use Rattle.llsc_base.specs.Images.{Program}
use Rattle.llsc_base.specs.Sizes.{Numbers}
use Rattle.llsc_base.specs.Memory.{row_of}
use Rattle.history.specs.Cause.{is_write, writes_in_class}
use Rattle.history.specs.Marked.{byte_place}
use Rattle.history.specs.Parts.{accesses_of, entries_of}
use Rattle.history.specs.declared.entry.Entry.{Entry}
use Rattle.atomic_table.specs.Seated.{TableId}
use Rattle.shared_memory.specs.Origin.{Origin}
use Rattle.shared_memory.specs.Seen.{IsFront, IsOneOf, SaysAllOf, joint}
use Rattle.guest_core.specs.Machine.{MachineOf, InstructionSet}
use Rattle.guest_calls.specs.Pairs.{pair_of}
use Rattle.guest_calls.specs.Run.{EndsOn}
use Rattle.guest_thread.specs.Counts.{reads_of, writes_of, fails_of}
use Rattle.guest_thread.specs.Outcome.{AreEndsOn, IsEndOn, IsSpent}
use Rattle.guest_thread.specs.Start.{thread_start}
use Rattle.guest_thread.specs.declared.ends.GuestEnd.{GuestEnd}
use Rattle.guest_thread.specs.Crews.{AreFresh, IsFresh, threads_of}
use Rattle.guest_thread.specs.inner.Crews.{AreEndsOf, AreTaken, HaveEnded, IsEndOf}
use Rattle.guest_thread.specs.declared.crews.Job.{Job}
use Rattle.guest_thread.specs.declared.gathering.Ran.{Ran}

-- what was used up stays so
pub spent_later : (size : Numbers) (old new : List Entry) (addr : ℕ) → IsFront old new → IsSpent size old addr → IsSpent size new addr
spent_later size old new addr front spent =
    let row = row_of size.granule (byte_place addr) in
    let more : writes_in_class size row new ≡ writes_in_class size row old + writes_in_class size row front.0 =
    ap (writes_in_class size row) front.1 ∙ sum_by-append (λ e. cond (is_write size row e) 1 0) old front.0 in
    omega (arith, spent, more)

or_left : (a b : Bool) → a ≡ true → (a || b) ≡ true
or_left true b is = refl
or_left false b is = cc

or_right : (a b : Bool) → b ≡ true → (a || b) ≡ true
or_right true b is = refl
or_right false b is = is

pub taken_more : (old other new : ℕ → Bool) (t : ℕ) (ts : List ℕ) → new ≡ joint old other → AreTaken old ts → IsOneOf t other → AreTaken new (ts ++ t ∷ [])
taken_more old other new t [] is taken last =
    All-cons (λ u. IsOneOf u new) t [] (ap (λ f. f t) is ∙ or_right (old t) (other t) last) (All-nil (λ u. IsOneOf u new))
taken_more old other new t (u ∷ ts) is taken last =
    All-cons (λ v. IsOneOf v new) u (ts ++ t ∷ []) (ap (λ f. f u) is ∙ or_left (old u) (other u) (All-head (λ v. IsOneOf v old) u ts taken))
    (taken_more old other new t ts is (All-tail (λ v. IsOneOf v old) u ts taken) last)

-- each number is taken
pub taken_at : (numbers : ℕ → Bool) (n count t : ℕ) → AreTaken numbers (range_with_len n count) → t < count → IsOneOf (n + t) numbers
taken_at numbers n zero t taken less = absurd (omega (arith, less))
taken_at numbers n (suc count) zero taken less =
    let number : n ≡ n + 0 = omega arith in
    subst (λ k. IsOneOf k numbers) number (All-head (λ u. IsOneOf u numbers) n (range_with_len (n + 1) count) taken)
taken_at numbers n (suc count) (suc t) taken less =
    let number : n + 1 + t ≡ n + suc t = omega arith in
    let fewer : t < count = omega (arith, less) in
    subst (λ k. IsOneOf k numbers) number
    (taken_at numbers (n + 1) count t (All-tail (λ u. IsOneOf u numbers) n (range_with_len (n + 1) count) taken) fewer)

pub all_taken : (numbers : ℕ → Bool) (count : ℕ) (ts : List ℕ) → ts ≡ range_with_len 0 count → AreTaken numbers ts → (t : ℕ) → t < count → IsOneOf t numbers
all_taken numbers count ts is taken t less =
    subst (λ k. IsOneOf k numbers) (zero-add t) (taken_at numbers 0 count t (subst (AreTaken numbers) is taken) less)

module _ {I S : Type 0} (set : InstructionSet I S) where
  -- ---- an end in a history that begins a longer one, which has no more of its thread

  end_later : (program : Program) (size : Numbers) (budget : ℕ) (start : MachineOf I S) (old new : List Entry) (end : GuestEnd) → IsFront old new
      → entries_of end.thread new ≡ entries_of end.thread old → IsEndOn set program size budget start old end → IsEndOn set program size budget start new end
  end_later program size budget start old new end front same is = record {
    ends = subst (λ p. EndsOn set program budget start p end.stop end.steps end.out) (ap (λ l. map pair_of (accesses_of l)) (sym same)) is.ends;
    spent = λ addr stop. spent_later size old new addr front (is.spent addr stop);
    counts = record {
      reads = is.counts.reads ∙ ap reads_of (sym same);
      writes = is.counts.writes ∙ ap writes_of (sym same);
      fails = is.counts.fails ∙ ap fails_of (sym same);
    };
  }

  pub ended_later : (program : Program) (origin : Origin) (budget : ℕ) (old new : List Entry) (t : ℕ) (end : GuestEnd) → IsFront old new
      → entries_of t new ≡ entries_of t old → IsEndOf set program origin budget old t end → IsEndOf set program origin budget new t end
  ended_later program origin budget old new t end front same is = record {
    thread = is.thread;
    end_on = end_later program origin.size budget (thread_start set program origin.size origin.first t) old new end front
        (subst (λ u. entries_of u new ≡ entries_of u old) (sym is.thread) same) is.end_on;
    spends = is.spends;
    few = is.few;
  }

  pub all_later : (program : Program) (origin : Origin) (budget : ℕ) (old new : List Entry) (numbers : ℕ → Bool) (ts : List ℕ) (ends : List GuestEnd)
      → IsFront old new → SaysAllOf numbers old new → AreTaken numbers ts → AreEndsOf set program origin budget old ts ends → AreEndsOf set program origin budget new ts ends
  all_later program origin budget old new numbers [] [] front says taken are = tt
  all_later program origin budget old new numbers [] (end ∷ ends) front says taken are = absurd are
  all_later program origin budget old new numbers (t ∷ ts) [] front says taken are = absurd are
  all_later program origin budget old new numbers (t ∷ ts) (end ∷ ends) front says taken are = (
    ended_later program origin budget old new t end front (says t (All-head (λ u. IsOneOf u numbers) t ts taken)) are.0,
    all_later program origin budget old new numbers ts ends front says (All-tail (λ u. IsOneOf u numbers) t ts taken) are.1,
  )

  -- ---- one thread more

  pub one_more : (program : Program) (origin : Origin) (budget : ℕ) (history : List Entry) (t : ℕ) (end : GuestEnd) (ts : List ℕ) (ends : List GuestEnd)
      → AreEndsOf set program origin budget history ts ends → IsEndOf set program origin budget history t end
      → AreEndsOf set program origin budget history (ts ++ t ∷ []) (ends ++ end ∷ [])
  one_more program origin budget history t end [] [] are is = (is, tt)
  one_more program origin budget history t end [] (other ∷ ends) are is = absurd are
  one_more program origin budget history t end (u ∷ ts) [] are is = absurd are
  one_more program origin budget history t end (u ∷ ts) (other ∷ ends) are is = (are.0, one_more program origin budget history t end ts ends are.1 is)

  module _ {C R P : Type 0} (machine : C → MachineOf I S) (home : P → TableId) (numbers : P → ℕ → Bool) (seen : P → List Entry) (mem : TableId) (origin : Origin) (program : Program) where
    -- the jobs before the last, and the last
    pub split_last : (jobs rest : List (Job P C R)) (last : Job P C R) → jobs ≡ rest ++ last ∷ [] → AreFresh set machine home numbers seen mem origin program jobs
        → AreFresh set machine home numbers seen mem origin program rest × IsFresh set machine home numbers seen mem origin program last
    split_last jobs [] last is fresh = (tt, (subst (AreFresh set machine home numbers seen mem origin program) is fresh).0)
    split_last jobs (job ∷ rest) last is fresh =
        let all = subst (AreFresh set machine home numbers seen mem origin program) is fresh in
        let others = split_last (rest ++ last ∷ []) rest last refl all.1 in
        ((all.0, others.0), others.1)

    -- with the last one out, where there is one, those that are left are at their start, and so is that one
    pub split_found : (found : Option (Job P C R)) (jobs rest : List (Job P C R)) → jobs ≡ rest ++ option_to_list found
        → AreFresh set machine home numbers seen mem origin program jobs
        → AreFresh set machine home numbers seen mem origin program rest × IfSome found (IsFresh set machine home numbers seen mem origin program)
    split_found None jobs rest is fresh =
        (subst (AreFresh set machine home numbers seen mem origin program) (is ∙ append-nil rest) fresh, tt)
    split_found (Some last) jobs rest is fresh = split_last jobs rest last is fresh

    -- one more has ended
    pub ended_more : (budget : ℕ) (first last : Job P C R) (jobs rest : List (Job P C R)) (ran new : Ran P) (done : P) (end : GuestEnd)
        → jobs ≡ rest ++ last ∷ []
        → HaveEnded set home numbers seen mem origin program budget (threads_of (first ∷ rest)) ran
        → IsEndOf set program origin budget (seen done) last.thread end → IsOneOf last.thread (numbers done)
        → home new.pass ≡ mem → numbers new.pass ≡ joint (numbers ran.pass) (numbers done)
        → IsFront (seen ran.pass) (seen new.pass) × IsFront (seen done) (seen new.pass)
        → SaysAllOf (numbers ran.pass) (seen ran.pass) (seen new.pass) → SaysAllOf (numbers done) (seen done) (seen new.pass)
        → new.ends.items ≡ ran.ends.items ++ end ∷ []
        → HaveEnded set home numbers seen mem origin program budget (threads_of (first ∷ jobs)) new
    ended_more budget first last jobs rest ran new done end is ended here taken memory joined fronts mine yours ends =
        let threads : threads_of (first ∷ jobs) ≡ threads_of (first ∷ rest) ++ last.thread ∷ [] =
        ap (λ js. threads_of (first ∷ js)) is ∙ map-append (λ (job : Job P C R). job.thread) (first ∷ rest) (last ∷ []) in
        record {
          memory = memory;
          taken = subst (AreTaken (numbers new.pass)) (sym threads)
              (taken_more (numbers ran.pass) (numbers done) (numbers new.pass) last.thread (threads_of (first ∷ rest)) joined ended.taken taken);
          ends = subst (λ ts. AreEndsOf set program origin budget (seen new.pass) ts new.ends.items) (sym threads)
              (subst (AreEndsOf set program origin budget (seen new.pass) (threads_of (first ∷ rest) ++ last.thread ∷ [])) (sym ends)
              (one_more program origin budget (seen new.pass) last.thread end (threads_of (first ∷ rest)) ran.ends.items
              (all_later program origin budget (seen ran.pass) (seen new.pass) (numbers ran.pass) (threads_of (first ∷ rest)) ran.ends.items fronts.0 mine ended.taken ended.ends)
              (ended_later program origin budget (seen done) (seen new.pass) last.thread end fronts.1 (yours last.thread taken) here)));
        }

  -- ---- all threads

  as_many : (program : Program) (origin : Origin) (budget : ℕ) (history : List Entry) (n count : ℕ) (ends : List GuestEnd)
      → AreEndsOf set program origin budget history (range_with_len n count) ends → length ends ≡ count
  as_many program origin budget history n zero [] are = refl
  as_many program origin budget history n zero (end ∷ ends) are = absurd are
  as_many program origin budget history n (suc count) [] are = absurd are
  as_many program origin budget history n (suc count) (end ∷ ends) are = ap suc (as_many program origin budget history (n + 1) count ends are.1)

  end_at : (program : Program) (origin : Origin) (budget : ℕ) (history : List Entry) (n count t : ℕ) (ends : List GuestEnd) (end : GuestEnd)
      → AreEndsOf set program origin budget history (range_with_len n count) ends → slice_get ends t ≡ Some end → IsEndOf set program origin budget history (n + t) end
  end_at program origin budget history n zero t [] end are got = cc
  end_at program origin budget history n zero t (one ∷ ends) end are got = absurd are
  end_at program origin budget history n (suc count) t [] end are got = absurd are
  end_at program origin budget history n (suc count) zero (one ∷ ends) end are got =
      let same : one ≡ end = cc in
      let number : n ≡ n + 0 = omega arith in
      subst (λ k. IsEndOf set program origin budget history k end) number (subst (IsEndOf set program origin budget history n) same are.0)
  end_at program origin budget history n (suc count) (suc t) (one ∷ ends) end are got =
      let number : n + 1 + t ≡ n + suc t = omega arith in
      subst (λ k. IsEndOf set program origin budget history k end) number (end_at program origin budget history (n + 1) count t ends end are.1 got)

  pub are_ends : (program : Program) (origin : Origin) (budget : ℕ) (history : List Entry) (ts : List ℕ) (ends : List GuestEnd)
      → origin.first ≡ origin.size.threads → ts ≡ range_with_len 0 origin.size.threads → AreEndsOf set program origin budget history ts ends
      → AreEndsOn set program origin.size budget history ends
  are_ends program origin budget history ts ends begin is are =
      let all = subst (λ l. AreEndsOf set program origin budget history l ends) is are in
      let at : (t : ℕ) (end : GuestEnd) → slice_get ends t ≡ Some end → IsEndOf set program origin budget history t end =
      λ t end got. subst (λ k. IsEndOf set program origin budget history k end) (zero-add t) (end_at program origin budget history 0 origin.size.threads t ends end all got) in
      record {
        many = as_many program origin budget history 0 origin.size.threads ends all;
        numbers = λ t end got. (at t end got).thread;
        each = λ t end got.
            subst (λ n. IsEndOn set program origin.size budget (thread_start set program origin.size n t) history end) begin (at t end got).end_on;
      }

  -- what holds of each thread's end
  pub all_ends : (program : Program) (origin : Origin) (budget : ℕ) (history : List Entry) (holds : GuestEnd → Type 0) (ts : List ℕ) (ends : List GuestEnd)
      → ((t : ℕ) (end : GuestEnd) → IsEndOf set program origin budget history t end → holds end)
      → AreEndsOf set program origin budget history ts ends → All holds ends
  all_ends program origin budget history holds [] [] each are = All-nil holds
  all_ends program origin budget history holds [] (end ∷ ends) each are = absurd are
  all_ends program origin budget history holds (t ∷ ts) [] each are = absurd are
  all_ends program origin budget history holds (t ∷ ts) (end ∷ ends) each are =
      All-cons holds end ends (each t end are.0) (all_ends program origin budget history holds ts ends each are.1)
