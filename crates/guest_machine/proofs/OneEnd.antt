-- A thread alone has one end at most, and so has the trace of one thread.
use Rattle.std.proofs.Common.{◌≡◌, ℕ, List, [], ◌∷◌, refl, sym, ◌∙◌, subst}
use Rattle.llsc_base.specs.Images.{Program}
use Rattle.llsc_base.specs.Sizes.{Numbers}
use Rattle.guest_core.specs.Machine.{MachineOf, InstructionSet}
use Rattle.history.specs.Accesses.{history_of}
use Rattle.history.specs.declared.entry.Access.{Access}
use Rattle.history.specs.declared.entry.Entry.{Entry}
use Rattle.guest_calls.specs.Pairs.{pairs_of}
use Rattle.guest_calls.specs.Run.{Ends}
use Rattle.guest_calls.proofs.Decided.{AreDecided, one_end}
use Rattle.guest_thread.specs.Counts.{reads_in, writes_in, fails_in}
use Rattle.guest_thread.specs.Counting.{AreCounts, counts_in}
use Rattle.guest_thread.specs.End.{IsEndIn}
use Rattle.guest_thread.specs.Ends.{AreEnds}
use Rattle.guest_thread.specs.Start.{thread_start}
use Rattle.guest_thread.specs.declared.ends.GuestEnd.{GuestEnd}
use Rattle.guest_thread.proofs.OneOutcome.{same_end}
use Rattle.guest_machine.specs.Alone.{IsEndAlone, IsSoloEnd}
use Rattle.guest_machine.specs.Turns.{IsTrace}
use Rattle.guest_machine.proofs.Deciding.{by_memory, alone_decided}
use Rattle.guest_machine.proofs.SameCounts.{read_by, write_by, fail_by, reads_counted, writes_counted, fails_counted, same_count}
use Rattle.guest_machine.proofs.TracedAlone.{trace_decided}

module _ {I S : Type 0} (set : InstructionSet I S) where
  -- two ends of thread 0, whose replies memory decided, are the same
  same_by_memory : (program : Program) (budget : ℕ) (start : MachineOf I S) (granule : ℕ) (bytes : List ℕ) (history others : List Entry) (end other : GuestEnd)
      → end.thread ≡ 0 → IsEndIn set program budget start history end → AreDecided (by_memory granule bytes) (pairs_of 0 history)
      → other.thread ≡ 0 → IsEndIn set program budget start others other → AreDecided (by_memory granule bytes) (pairs_of 0 others)
      → end ≡ other
  same_by_memory program budget start granule bytes history others end other number is decided number_too is_too decided_too =
      let ends : Ends set program budget start (pairs_of 0 history) end.stop end.steps end.out =
      subst (λ t. Ends set program budget start (pairs_of t history) end.stop end.steps end.out) number is.ends in
      let ends_too : Ends set program budget start (pairs_of 0 others) other.stop other.steps other.out =
      subst (λ t. Ends set program budget start (pairs_of t others) other.stop other.steps other.out) number_too is_too.ends in
      let counts : AreCounts 0 history (counts_in end) = subst (λ t. AreCounts t history (counts_in end)) number is.counts in
      let counts_too : AreCounts 0 others (counts_in other) = subst (λ t. AreCounts t others (counts_in other)) number_too is_too.counts in
      let same = one_end set (by_memory granule bytes) program budget start (pairs_of 0 history) (pairs_of 0 others)
      end.stop other.stop end.steps other.steps end.out other.out ends decided ends_too decided_too in
      same_end end other (number ∙ sym number_too) same.1 same.2
      (counts.reads ∙ same_count reads_in (λ pair. read_by pair.0 pair.1) reads_counted 0 history others same.0 ∙ sym counts_too.reads)
      (counts.writes ∙ same_count writes_in (λ pair. write_by pair.0 pair.1) writes_counted 0 history others same.0 ∙ sym counts_too.writes)
      (counts.fails ∙ same_count fails_in (λ pair. fail_by pair.0 pair.1) fails_counted 0 history others same.0 ∙ sym counts_too.fails)
      same.3

  -- two ends of a thread alone are the same
  pub one_end_alone : (program : Program) (budget : ℕ) (start : MachineOf I S) (granule : ℕ) (bytes : List ℕ) (end other : GuestEnd)
      → IsEndAlone set program budget start granule bytes end → IsEndAlone set program budget start granule bytes other → end ≡ other
  one_end_alone program budget start granule bytes end other one two =
      same_by_memory program budget start granule bytes one.history two.history end other
      one.number one.end_in (alone_decided granule bytes one.history one.alone)
      two.number two.end_in (alone_decided granule bytes two.history two.alone)

  -- the end of a trace of one thread is that of the thread alone
  pub end_as_traced : (program : Program) (size : Numbers) (seed budget : ℕ) (accesses : List Access) (end alone : GuestEnd)
      → IsTrace set program size seed budget accesses → AreEnds set program size budget (history_of accesses) (end ∷ []) → IsSoloEnd set program size budget alone
      → end ≡ alone
  end_as_traced program size seed budget accesses end alone trace are is =
      same_by_memory program budget (thread_start set program size size.threads 0) size.granule program.bytes (history_of accesses) is.1.history end alone
      (are.numbers 0 end refl) (are.each 0 end refl) (trace_decided set program size seed budget accesses is.0 trace)
      is.1.number is.1.end_in (alone_decided size.granule program.bytes is.1.history is.1.alone)
