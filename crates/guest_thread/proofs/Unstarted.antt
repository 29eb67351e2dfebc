-- Where none is spare nobody starts a thread, and the outcome is that of threads which begin by themselves.
use Rattle.std.proofs.Common.{◌≡◌, ℕ, suc, ◌+◌, ◌<◌, ◌≤◌, All, false, Some, None, List, [], ◌∷◌, ◌++◌, cond, length, map, slice_get, arith, refl, sym, subst, ap, ◌∙◌, append-nil}
use Rattle.std.specs.List.{flat_map, range_with_len}
use Rattle.std.proofs.lemmas.List.Elements.{All-cons, All-nil}
use Rattle.llsc_base.specs.Images.{Program}
use Rattle.llsc_base.specs.Sizes.{Numbers}
use Rattle.history.specs.Started.{AreBorn, MayStand, is_start_by, starts_of}
use Rattle.history.specs.Starts.{Started, starts_in}
use Rattle.history.specs.declared.entry.Entry.{Entry}
use Rattle.history.specs.declared.entry.Entry.TheVariants.{Read, Write, Fail, Clear, Watch, Miss, Begin, End, Start}
use Rattle.history.proofs.Cuts.{each-front, each-last}
use Rattle.history.proofs.Ends.{by_ends}
use Rattle.history.proofs.Starts.{starts_from-length}
use Rattle.std.proofs.lemmas.List.Sums.{sum_by-append}
use Rattle.guest_calls.specs.Pairs.{pairs_of}
use Rattle.guest_thread.specs.Begun.{BeginsAs, by_itself, begun_in, children_of}
use Rattle.guest_thread.specs.BegunOutcome.{IsBegunEnd, IsOutcomeFrom}
use Rattle.guest_thread.specs.Outcome.{IsOutcome, IsEndOn}
use Rattle.guest_thread.specs.Start.{thread_start}
use Rattle.guest_thread.specs.StockRun.{IsStockRun}
use Rattle.guest_thread.specs.declared.ends.GuestEnd.{GuestEnd}
use Rattle.guest_thread.proofs.StockRun.{run_stockless}
use Rattle.guest_core.specs.Machine.{InstructionSet}

module _ {I S : Type 0} (set : InstructionSet I S) where
  -- ---- no starts

  starts_nobody : (first thread : ℕ) (past : List Entry) (entry : Entry) → MayStand first 0 past entry → is_start_by thread entry ≡ false
  starts_nobody first thread past (Read t place value ex) may = refl
  starts_nobody first thread past (Write t place value ex) may = refl
  starts_nobody first thread past (Fail t place value cause) may = refl
  starts_nobody first thread past (Clear t) may = refl
  starts_nobody first thread past (Watch t place) may = refl
  starts_nobody first thread past (Miss t place) may = refl
  starts_nobody first thread past (Begin t place) may = refl
  starts_nobody first thread past (End t place) may = refl
  starts_nobody first thread past (Start t child entry arg) may = let few = may.1 in absurd (omega arith)

  no_starts : (first thread : ℕ) (history : List Entry) → AreBorn first 0 history → starts_of thread history ≡ 0
  no_starts first thread history = by_ends (λ es. AreBorn first 0 es → starts_of thread es ≡ 0) (λ born. refl) more history
    where
      more : (entries : List Entry) (e : Entry) → (AreBorn first 0 entries → starts_of thread entries ≡ 0) → AreBorn first 0 (entries ++ e ∷ []) → starts_of thread (entries ++ e ∷ []) ≡ 0
      more entries e before born =
          let none = before (each-front (MayStand first 0) entries (e ∷ []) born) in
          let last = starts_nobody first thread entries e (each-last (MayStand first 0) entries e born) in
          sum_by-append (λ (x : Entry). cond (is_start_by thread x) 1 0) entries (e ∷ [])
          ∙ ap (λ (n : ℕ). n + starts_of thread (e ∷ [])) none ∙ (rw last refl)

  nothing : (xs : List Started) → length xs ≡ 0 → xs ≡ []
  nothing [] none = refl
  nothing (x ∷ xs) none = absurd (omega (arith, none))

  pub none_started : (first thread : ℕ) (history : List Entry) → AreBorn first 0 history → starts_in thread history ≡ []
  none_started first thread history born = nothing (starts_in thread history) (starts_from-length thread 0 history ∙ no_starts first thread history born)

  no_children : (first : ℕ) (history : List Entry) (ts : List ℕ) → AreBorn first 0 history → flat_map (λ t. children_of t history) ts ≡ []
  no_children first history [] born = refl
  no_children first history (t ∷ ts) born =
      ap (λ (ss : List Started). map (λ s. s.child) ss ++ flat_map (λ u. children_of u history) ts) (none_started first t history born) ∙ no_children first history ts born

  pub first_begun : (first : ℕ) (history : List Entry) → AreBorn first 0 history → begun_in first history ≡ range_with_len 0 first
  first_begun first history born =
      ap (λ (us : List ℕ). range_with_len 0 first ++ us) (no_children first history (range_with_len 0 first) born) ∙ append-nil (range_with_len 0 first)

  -- ---- one end

  to_stock : (program : Program) (size : Numbers) (budget t : ℕ) (history : List Entry) (end : GuestEnd) → AreBorn size.threads 0 history → t < size.threads → end.thread ≡ t
      → IsEndOn set program size budget (thread_start set program size size.threads t) history end → IsBegunEnd set program size size.threads 0 budget history end
  to_stock program size budget t history end born below thread is =
      let start = thread_start set program size size.threads t in
      record {
        start = start;
        begins = subst (λ (u : ℕ). BeginsAs set program size size.threads history u start) (sym thread) (by_itself below);
        ends = record {
          ends = subst (λ (ss : List Started). IsStockRun set None program budget start (pairs_of end.thread history) ss end.stop end.steps end.out)
              (sym (none_started size.threads end.thread history born)) (run_stockless set program budget start (pairs_of end.thread history) end.stop end.steps end.out is.ends);
          spent = is.spent;
          counts = is.counts;
        };
      }

  -- ---- all ends

  each_from : (program : Program) (size : Numbers) (budget n : ℕ) (history : List Entry) (ends : List GuestEnd) → AreBorn size.threads 0 history → n + length ends ≤ size.threads
      → ((t : ℕ) (end : GuestEnd) → slice_get ends t ≡ Some end → (end.thread ≡ n + t) × IsEndOn set program size budget (thread_start set program size size.threads (n + t)) history end)
      → (map (λ end. end.thread) ends ≡ range_with_len n (length ends)) × All (IsBegunEnd set program size size.threads 0 budget history) ends
  each_from program size budget n history [] born within each = (refl, All-nil (IsBegunEnd set program size size.threads 0 budget history))
  each_from program size budget n history (end ∷ ends) born within each =
      let here = each 0 end refl in
      let number : n + 0 ≡ n = omega arith in
      let below : n + 0 < size.threads = omega (arith, within) in
      let less : n + 1 + length ends ≤ size.threads = omega (arith, within) in
      let rest = each_from program size budget (n + 1) history ends born less (λ t one got.
      let one_on : n + suc t ≡ n + 1 + t = omega arith in
      subst (λ (k : ℕ). (one.thread ≡ k) × IsEndOn set program size budget (thread_start set program size size.threads k) history one) one_on (each (suc t) one got)) in (
        ap (λ (t : ℕ). t ∷ map (λ e. e.thread) ends) (here.0 ∙ number) ∙ ap (λ (ts : List ℕ). n ∷ ts) rest.0,
        All-cons (IsBegunEnd set program size size.threads 0 budget history) end ends (to_stock program size budget (n + 0) history end born below here.0 here.1) rest.1,
      )

  pub outcome_from : (program : Program) (size : Numbers) (budget : ℕ) (history : List Entry) (ends : List GuestEnd) → IsOutcome set program size budget history ends
      → IsOutcomeFrom set program size size.threads 0 budget history ends
  outcome_from program size budget history ends is =
      let many = is.ends.many in
      let all = each_from program size budget 0 history ends is.born (omega (arith, many)) (λ t end got.
      let number : t ≡ 0 + t = omega arith in (
        is.ends.numbers t end got ∙ number,
        subst (λ (k : ℕ). IsEndOn set program size budget (thread_start set program size size.threads k) history end) number (is.ends.each t end got),
      )) in
      record {
        legal = is.legal;
        complete = is.complete;
        born = is.born;
        ends = record {
          threads = all.0 ∙ ap (range_with_len 0) many ∙ sym (first_begun size.threads history is.born);
          each = all.1;
        };
      }
