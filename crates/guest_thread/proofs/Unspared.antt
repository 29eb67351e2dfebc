-- Where none is spare, an outcome of threads that may start others is one of threads that begin by themselves: what `Unstarted` has, the
-- other way round.
use Rattle.std.proofs.Common.{◌≡◌, ℕ, ◌+◌, Some, List, ◌∷◌, ◌++◌, length, map, take, drop, get_or, slice_get, arith, refl, sym, subst, ap, ◌∙◌}
use Rattle.std.specs.List.{Contains, range_with_len}
use Rattle.std.proofs.lemmas.List.{drop_more, get_or-map, length-map, take-append-drop}
use Rattle.std.proofs.lemmas.List.FromFn.{get_or-range_with_len, length-range_with_len}
use Rattle.std.proofs.lemmas.Option.{get_or_from_slice_get, slice_get_within}
use Rattle.llsc_base.specs.Images.{Program}
use Rattle.llsc_base.specs.Sizes.{Numbers}
use Rattle.history.specs.Started.{AreBorn, MayStand}
use Rattle.history.specs.declared.entry.Entry.{Entry}
use Rattle.history.specs.declared.entry.Entry.TheVariants.{Start}
use Rattle.guest_calls.specs.Pairs.{pairs_of}
use Rattle.guest_calls.specs.Run.{EndsOn}
use Rattle.guest_core.specs.Machine.{InstructionSet, MachineOf}
use Rattle.guest_thread.specs.Begun.{BeginsAs, by_itself, by_start}
use Rattle.guest_thread.specs.BegunOutcome.{IsBegunEnd, IsOutcomeFrom}
use Rattle.guest_thread.specs.Outcome.{IsEndOn, IsOutcome}
use Rattle.guest_thread.specs.Start.{thread_start}
use Rattle.guest_thread.specs.declared.ends.GuestEnd.{GuestEnd}
use Rattle.guest_thread.proofs.StockRun.{stockless_run}
use Rattle.guest_thread.proofs.Unstarted.{first_begun}

module _ {I S : Type 0} (set : InstructionSet I S) where
  -- ---- nobody is started

  not_started : (first starter child entry arg : ℕ) (history : List Entry) → AreBorn first 0 history → Contains history (Start starter child entry arg) → ⊥
  not_started first starter child entry arg history born there =
      let k = there.0 in
      let start = Start starter child entry arg in
      let behind : drop k history ≡ start ∷ drop (k + 1) history = drop_more history k start there.1 ∙ ap (λ e. e ∷ drop (k + 1) history) there.2 in
      let may : MayStand first 0 (take k history) start =
      born (take k history) start (drop (k + 1) history) (sym (take-append-drop k history) ∙ ap (λ l. take k history ++ l) behind) in
      let few = may.1 in absurd (omega (arith, few))

  -- ---- one end

  own_start : (program : Program) (size : Numbers) (history : List Entry) (thread : ℕ) (start : MachineOf I S) → AreBorn size.threads 0 history
      → BeginsAs set program size size.threads history thread start → start ≡ thread_start set program size size.threads thread
  own_start program size history thread _ born (by_itself less) = refl
  own_start program size history thread _ born (by_start starter entry arg there) = absurd (not_started size.threads starter thread entry arg history born there)

  plain_end : (program : Program) (size : Numbers) (budget : ℕ) (history : List Entry) (end : GuestEnd) → AreBorn size.threads 0 history
      → IsBegunEnd set program size size.threads 0 budget history end
      → IsEndOn set program size budget (thread_start set program size size.threads end.thread) history end
  plain_end program size budget history end born is = record {
    ends = subst (λ start. EndsOn set program budget start (pairs_of end.thread history) end.stop end.steps end.out)
        (own_start program size history end.thread is.start born is.begins)
        (stockless_run set program budget is.start (pairs_of end.thread history) _ end.stop end.steps end.out is.ends.ends).1;
    spent = is.ends.spent;
    counts = is.ends.counts;
  }

  -- ---- all ends

  -- the end at an index is that of the thread of this number
  numbered : (count t : ℕ) (ends : List GuestEnd) (end : GuestEnd) → map (λ one. one.thread) ends ≡ range_with_len 0 count → length ends ≡ count
      → slice_get ends t ≡ Some end → end.thread ≡ t
  numbered count t ends end all many got =
      let below = slice_get_within ends t end got in
      let at : get_or ends t end ≡ end = get_or_from_slice_get ends t end end got in
      let number : get_or (range_with_len 0 count) t end.thread ≡ 0 + t = get_or-range_with_len 0 count t end.thread (omega (arith, below, many)) in
      let same : end.thread ≡ 0 + t =
      ap (λ (e : GuestEnd). e.thread) (sym at)
      ∙ sym (get_or-map (λ (e : GuestEnd). e.thread) ends t end end.thread below)
      ∙ ap (λ (l : List ℕ). get_or l t end.thread) all
      ∙ number in
      omega (arith, same)

  pub outcome_unspared : (program : Program) (size : Numbers) (budget : ℕ) (history : List Entry) (ends : List GuestEnd)
      → IsOutcomeFrom set program size size.threads 0 budget history ends → IsOutcome set program size budget history ends
  outcome_unspared program size budget history ends is =
      let all : map (λ end. end.thread) ends ≡ range_with_len 0 size.threads = is.ends.threads ∙ first_begun set size.threads history is.born in
      let many : length ends ≡ size.threads =
      sym (length-map ends (λ (end : GuestEnd). end.thread)) ∙ ap length all ∙ length-range_with_len 0 size.threads in
      record {
        legal = is.legal;
        complete = is.complete;
        born = is.born;
        ends = record {
          many = many;
          numbers = λ t end got. numbered size.threads t ends end all many got;
          each = λ t end got.
              subst (λ (k : ℕ). IsEndOn set program size budget (thread_start set program size size.threads k) history end) (numbered size.threads t ends end all many got)
              (plain_end program size budget history end is.born
              (subst (IsBegunEnd set program size size.threads 0 budget history) (get_or_from_slice_get ends t end end got)
              (is.ends.each t end (slice_get_within ends t end got))));
        };
      }
