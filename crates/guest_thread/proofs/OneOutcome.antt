-- A history has one end of each thread at most.
use Rattle.std.proofs.Common.{◌≡◌, ℕ, zero, suc, List, [], ◌∷◌, length, slice_get, Some, refl, sym, ◌∙◌, ap, ap₂, subst}
use Rattle.llsc_base.specs.Images.{Program}
use Rattle.llsc_base.specs.Sizes.{Numbers}
use Rattle.history.specs.Parts.{entries_of}
use Rattle.history.specs.declared.entry.Entry.{Entry}
use Rattle.guest_core.specs.Machine.{MachineOf, InstructionSet}
use Rattle.guest_calls.specs.Pairs.{pairs_of}
use Rattle.guest_calls.specs.Run.{EndsOn, by_itself}
use Rattle.guest_calls.proofs.Asked.{one_end_on}
use Rattle.guest_thread.specs.Counts.{reads_of, writes_of, fails_of}
use Rattle.guest_thread.specs.Counting.{AreCounts, counts_in}
use Rattle.guest_thread.specs.Ends.{AreEnds}
use Rattle.guest_thread.specs.Outcome.{AreEndsOn}
use Rattle.guest_thread.specs.Start.{thread_start}
use Rattle.guest_thread.specs.declared.ends.GuestEnd.{GuestEnd}

-- an end is its thread, its stop, its steps, its counts and its output
pub same_end : (one two : GuestEnd) → one.thread ≡ two.thread → one.stop ≡ two.stop → one.steps ≡ two.steps → one.reads ≡ two.reads
    → one.writes ≡ two.writes → one.fails ≡ two.fails → one.out ≡ two.out → one ≡ two
same_end one two thread stop steps reads writes fails out =
    ap (λ t. record one { thread = t }) thread
    ∙ ap (λ s. record one { thread = two.thread; stop = s }) stop
    ∙ ap (λ n. record one { thread = two.thread; stop = two.stop; steps = n }) steps
    ∙ ap (λ n. record one { thread = two.thread; stop = two.stop; steps = two.steps; reads = n }) reads
    ∙ ap (λ n. record two { writes = n; fails = one.fails; out = one.out }) writes
    ∙ ap (λ n. record two { fails = n; out = one.out }) fails
    ∙ ap (λ o. record two { out = o }) out

-- two ends of a thread in a history are the same
same_in : {I S : Type 0} (set : InstructionSet I S) (program : Program) (budget : ℕ) (start : MachineOf I S) (history : List Entry) (one two : GuestEnd) → one.thread ≡ two.thread
    → EndsOn set program budget start (pairs_of one.thread history) one.stop one.steps one.out → AreCounts one.thread history (counts_in one)
    → EndsOn set program budget start (pairs_of two.thread history) two.stop two.steps two.out → AreCounts two.thread history (counts_in two)
    → one ≡ two
same_in set program budget start history one two thread ends counts ends_too counts_too =
    let mine = subst (λ t. EndsOn set program budget start (pairs_of t history) one.stop one.steps one.out) thread ends in
    let same = one_end_on set program budget start (pairs_of two.thread history) one.stop two.stop one.steps two.steps one.out two.out mine ends_too in
    same_end one two thread same.0 same.1
    (counts.reads ∙ ap (λ t. reads_of (entries_of t history)) thread ∙ sym counts_too.reads)
    (counts.writes ∙ ap (λ t. writes_of (entries_of t history)) thread ∙ sym counts_too.writes)
    (counts.fails ∙ ap (λ t. fails_of (entries_of t history)) thread ∙ sym counts_too.fails)
    same.2

-- lists that are as long as each other and have the same at each place are the same
same_list : (ends others : List GuestEnd) → length ends ≡ length others
    → ((t : ℕ) (one two : GuestEnd) → slice_get ends t ≡ Some one → slice_get others t ≡ Some two → one ≡ two) → ends ≡ others
same_list [] [] many each = refl
same_list [] (two ∷ others) many each = cc
same_list (one ∷ ends) [] many each = cc
same_list (one ∷ ends) (two ∷ others) many each =
    let rest : length ends ≡ length others = cc in
    ap₂ (λ e es. e ∷ es) (each zero one two refl refl)
    (same_list ends others rest (λ t x y got got_too. each (suc t) x y got got_too))

-- the ends of all threads in a history are one
pub one_list : {I S : Type 0} (set : InstructionSet I S) (program : Program) (size : Numbers) (budget : ℕ) (history : List Entry) (ends others : List GuestEnd)
    → AreEnds set program size budget history ends → AreEnds set program size budget history others → ends ≡ others
one_list set program size budget history ends others are are_too =
    same_list ends others (are.many ∙ sym are_too.many) (λ t one two got got_too.
    let first = are.each t one got in
    let second = are_too.each t two got_too in
    same_in set program budget (thread_start set program size size.threads t) history one two (are.numbers t one got ∙ sym (are_too.numbers t two got_too))
    (by_itself (pairs_of one.thread history) one.stop one.steps one.out first.ends) first.counts
    (by_itself (pairs_of two.thread history) two.stop two.steps two.out second.ends) second.counts)

-- the same on a memory whose classes take a limited number of writes
pub one_list_on : {I S : Type 0} (set : InstructionSet I S) (program : Program) (size : Numbers) (budget : ℕ) (history : List Entry) (ends others : List GuestEnd)
    → AreEndsOn set program size budget history ends → AreEndsOn set program size budget history others → ends ≡ others
one_list_on set program size budget history ends others are are_too =
    same_list ends others (are.many ∙ sym are_too.many) (λ t one two got got_too.
    let first = are.each t one got in
    let second = are_too.each t two got_too in
    same_in set program budget (thread_start set program size size.threads t) history one two (are.numbers t one got ∙ sym (are_too.numbers t two got_too))
    first.ends first.counts second.ends second.counts)
