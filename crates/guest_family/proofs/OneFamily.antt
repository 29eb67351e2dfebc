-- A history has one list of ends of the threads that have begun in it.
use Rattle.std.proofs.Common.{◌≡◌, inl, inr, ℕ, zero, suc, ◌+◌, ◌<◌, true, All, Contains, List, [], ◌∷◌, ◌++◌, map, refl, sym, subst, ap, ap₂, ◌∙◌, cond, arith}
use Rattle.std.proofs.lemmas.Bool.{eq-eqb}
use Rattle.std.proofs.lemmas.List.Elements.{All-head, All-tail, Contains-append_cases}
use Rattle.std.proofs.lemmas.List.Sums.{sum_by-append}
use Rattle.llsc_base.specs.Images.{Program}
use Rattle.llsc_base.specs.Sizes.{Numbers}
use Rattle.history.specs.Started.{AreBorn, MayStand, child_of, is_start_by, starts_of}
use Rattle.history.specs.Starts.{starts_in}
use Rattle.history.specs.Parts.{entries_of}
use Rattle.history.specs.declared.entry.Entry.{Entry}
use Rattle.history.specs.declared.entry.Entry.TheVariants.{Start}
use Rattle.history.proofs.Born.{child-apart}
use Rattle.history.proofs.Cuts.{each-front, each-last}
use Rattle.history.proofs.Ends.{by_ends}
use Rattle.a32_step.specs.Machine.{Machine, a32}
use Rattle.guest_calls.specs.Pairs.{pairs_of}
use Rattle.guest_thread.specs.Begun.{BeginsAs, by_itself, by_start, child_start, stock_of}
use Rattle.guest_thread.specs.BegunOutcome.{IsBegunEnd, IsOutcomeFrom}
use Rattle.guest_thread.specs.Counts.{reads_of, writes_of, fails_of}
use Rattle.guest_thread.specs.StockRun.{IsStockRun}
use Rattle.guest_thread.specs.declared.ends.GuestEnd.{GuestEnd}
use Rattle.guest_thread.proofs.OneOutcome.{same_end}
use Rattle.guest_family.proofs.OneRun.{one_stock_run}

-- ---- a thread is started once

only : (e x : Entry) → Contains (e ∷ []) x → e ≡ x
only e x (zero, less, is) = is
only e x (suc k, less, is) = absurd (omega (arith, less))

starts_of-push : (t : ℕ) (history : List Entry) (e : Entry) → starts_of t (history ++ e ∷ []) ≡ starts_of t history + cond (is_start_by t e) 1 0
starts_of-push t history e =
    let all = sum_by-append (λ (x : Entry). cond (is_start_by t x) 1 0) history (e ∷ []) in
    omega (arith, all)

module _ (first spare : ℕ) where
  -- one that was started has the number of its starter and of one of the starter's starts
  record IsNumbered (starter child : ℕ) (history : List Entry) : Type 0 where
    starts : starter < first
    place : ℕ
    few : place < spare
    earlier : place < starts_of starter history
    is : child ≡ child_of first spare starter place

  Numbers_in : List Entry → Type 0
  Numbers_in history = (starter child entry arg : ℕ) → AreBorn first spare history → Contains history (Start starter child entry arg) → IsNumbered starter child history

  numbered : (history : List Entry) → Numbers_in history
  unfolding Numbers_in
  numbered history = by_ends Numbers_in (λ starter child entry arg born has. absurd (omega (arith, has.1))) more history
    where
      more : (entries : List Entry) (e : Entry) → Numbers_in entries → Numbers_in (entries ++ e ∷ [])
      more entries e before starter child entry arg born has = elim (Contains-append_cases entries (e ∷ []) (Start starter child entry arg) has) [
        | inl earlier ↦
            let old = before starter child entry arg (each-front (MayStand first spare) entries (e ∷ []) born) earlier in
            let grown = starts_of-push starter entries e in
            record { starts = old.starts; place = old.place; few = old.few; earlier = omega (arith, old.earlier, grown); is = old.is }
        | inr last ↦
            let is = only e (Start starter child entry arg) last in
            let stands = subst (MayStand first spare entries) is (each-last (MayStand first spare) entries e born) in
            let own : is_start_by starter e ≡ true = ap (is_start_by starter) is ∙ eq-eqb starter starter refl in
            let grown = starts_of-push starter entries e ∙ ap (λ b. starts_of starter entries + cond b 1 0) own in
            record { starts = stands.0; place = starts_of starter entries; few = stands.1; earlier = omega (arith, grown); is = stands.2 }
      ]

  -- so no thread is started that was started before
  never_again : (history : List Entry) (one other child entry arg : ℕ) → IsNumbered one child history → MayStand first spare history (Start other child entry arg) → ⊥
  never_again history one other child entry arg numbered stands =
      let both = child-apart first spare one other numbered.place (starts_of other history) numbered.few stands.1 (sym numbered.is ∙ stands.2) in
      let many = ap (λ t. starts_of t history) both.0 in
      omega (arith, numbered.earlier, both.1, many)

  Starts_once : List Entry → Type 0
  Starts_once history = (one other child entry address arg value : ℕ) → AreBorn first spare history
      → Contains history (Start one child entry arg) → Contains history (Start other child address value) → (entry ≡ address) × (arg ≡ value)

  starts_once : (history : List Entry) → Starts_once history
  unfolding Starts_once Numbers_in
  starts_once history = by_ends Starts_once (λ one other child entry address arg value born has has_too. absurd (omega (arith, has.1))) more history
    where
      more : (entries : List Entry) (e : Entry) → Starts_once entries → Starts_once (entries ++ e ∷ [])
      more entries e before one other child entry address arg value born has has_too =
          let born_before = each-front (MayStand first spare) entries (e ∷ []) born in
          let stands = each-last (MayStand first spare) entries e born in
          let mine : Entry = Start one child entry arg in
          let others : Entry = Start other child address value in
          elim (Contains-append_cases entries (e ∷ []) mine has) [
            | inl earlier ↦ elim (Contains-append_cases entries (e ∷ []) others has_too) [
              | inl earlier_too ↦ before one other child entry address arg value born_before earlier earlier_too
              | inr last ↦ absurd (never_again entries one other child address value (numbered entries one child entry arg born_before earlier)
                  (subst (MayStand first spare entries) (only e others last) stands))
            ]
            | inr last ↦ elim (Contains-append_cases entries (e ∷ []) others has_too) [
              | inl earlier ↦ absurd (never_again entries other one child entry arg (numbered entries other child address value born_before earlier)
                  (subst (MayStand first spare entries) (only e mine last) stands))
              | inr last_too ↦ let same : mine ≡ others = sym (only e mine last) ∙ only e others last_too in (cc, cc)
            ]
          ]

  -- ---- a thread begins in one way

  module _ (program : Program) (size : Numbers) (budget : ℕ) (history : List Entry) (born : AreBorn first spare history) where
    not_both : (t starter entry arg : ℕ) → t < first → Contains history (Start starter t entry arg) → ⊥
    unfolding Numbers_in
    not_both t starter entry arg below has =
        let at = numbered history starter t entry arg born has in
        omega (arith, below, at.is)

    begins_once : (t : ℕ) (start other : Machine) → BeginsAs a32 program size first history t start → BeginsAs a32 program size first history t other → start ≡ other
    unfolding Starts_once
    begins_once t _ _ (by_itself below) (by_itself below_too) = refl
    begins_once t _ _ (by_itself below) (by_start starter entry arg has) = absurd (not_both t starter entry arg below has)
    begins_once t _ _ (by_start starter entry arg has) (by_itself below) = absurd (not_both t starter entry arg below has)
    begins_once t _ _ (by_start one entry arg has) (by_start other address value has_too) =
        let same = starts_once history one other t entry address arg value born has has_too in
        ap₂ (λ e a. child_start a32 size t e a) same.0 same.1

    -- ---- and has one end

    Begun : GuestEnd → Type 0
    Begun = IsBegunEnd a32 program size first spare budget history

    ends_once : (one two : GuestEnd) → one.thread ≡ two.thread → Begun one → Begun two → one ≡ two
    unfolding Begun
    ends_once one two thread is is_too =
        let begins = subst (λ t. BeginsAs a32 program size first history t is.start) thread is.begins in
        let start = begins_once two.thread is.start is_too.start begins is_too.begins in
        let mine = subst (λ t. IsStockRun a32 (stock_of first spare t) program budget is.start (pairs_of t history) (starts_in t history) one.stop one.steps one.out) thread is.ends.ends in
        let run = subst (λ s. IsStockRun a32 (stock_of first spare two.thread) program budget s (pairs_of two.thread history) (starts_in two.thread history) one.stop one.steps one.out) start mine in
        let same = one_stock_run (stock_of first spare two.thread) program budget is_too.start (pairs_of two.thread history) (starts_in two.thread history)
        (starts_in two.thread history) one.stop two.stop one.steps two.steps one.out two.out run is_too.ends.ends in
        let counts = is.ends.counts in
        let counts_too = is_too.ends.counts in
        same_end one two thread same.1 same.2
        (counts.reads ∙ ap (λ t. reads_of (entries_of t history)) thread ∙ sym counts_too.reads)
        (counts.writes ∙ ap (λ t. writes_of (entries_of t history)) thread ∙ sym counts_too.writes)
        (counts.fails ∙ ap (λ t. fails_of (entries_of t history)) thread ∙ sym counts_too.fails)
        same.3

    -- ---- all ends

    same_ends : (ends others : List GuestEnd) → map (λ end. end.thread) ends ≡ map (λ end. end.thread) others → All Begun ends → All Begun others → ends ≡ others
    same_ends [] [] threads each each_too = refl
    same_ends [] (two ∷ others) threads each each_too = cc
    same_ends (one ∷ ends) [] threads each each_too = cc
    same_ends (one ∷ ends) (two ∷ others) threads each each_too =
        let first_thread : one.thread ≡ two.thread = cc in
        let rest : map (λ end. end.thread) ends ≡ map (λ end. end.thread) others = cc in
        ap₂ (λ e es. e ∷ es) (ends_once one two first_thread (All-head Begun one ends each) (All-head Begun two others each_too))
        (same_ends ends others rest (All-tail Begun one ends each) (All-tail Begun two others each_too))

-- the ends of all threads that have begun in a history are one
pub one_outcome_from : (program : Program) (size : Numbers) (first spare budget : ℕ) (history : List Entry) (ends others : List GuestEnd)
    → IsOutcomeFrom a32 program size first spare budget history ends → IsOutcomeFrom a32 program size first spare budget history others → ends ≡ others
unfolding Begun
one_outcome_from program size first spare budget history ends others are are_too =
    same_ends first spare program size budget history are.born ends others (are.ends.threads ∙ sym are_too.ends.threads) are.ends.each are_too.ends.each
