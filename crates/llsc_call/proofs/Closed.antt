-- What threads have done that ran beside each other.
use Rattle.std.proofs.Common.{◌≡◌, ℕ, ◌*◌, ◌<◌, ◌≤◌, ◌^◌, All, List, length, slice_index, arith, sym, subst, ◌+◌, ◌∙◌}
use Rattle.std.proofs.Math.Nat.{mul-one}
use Rattle.std.specs.List.{sum_by}
use Rattle.std.proofs.lemmas.List.Elements.{All-weaker}
use Rattle.std.proofs.lemmas.List.Sums.{sum_by-le}
use Rattle.llsc_base.specs.Images.{Program}
use Rattle.llsc_base.specs.Sizes.{Numbers}
use Rattle.row_bytes.specs.Cell.{cell_at}
use Rattle.history.specs.Legal.{IsComplete, IsLegal}
use Rattle.history.specs.Monitor.{at_rest_by, monitor_after}
use Rattle.history.specs.Parts.{accesses_of}
use Rattle.history.specs.Started.{AreBorn}
use Rattle.history.specs.declared.entry.Entry.{Entry}
use Rattle.guest_core.specs.Machine.{InstructionSet}
use Rattle.a32_step.specs.Machine.{a32}
use Rattle.guest_thread.specs.BegunOutcome.{AreBegunEnds, IsOutcomeFrom}
use Rattle.guest_thread.specs.Counting.{accesses_counted, counts_in}
use Rattle.guest_thread.specs.Outcome.{AreEndsOn, IsOutcome}
use Rattle.guest_thread.specs.declared.ends.GuestEnd.{GuestEnd}
use Rattle.guest_thread.proofs.Unstarted.{outcome_from}
use Rattle.llsc_call.specs.Beside.{AreCells, HaveRun, HaveRunFrom, left_by}
use Rattle.llsc_call.specs.Versions.{KeepsVersions}
use Rattle.llsc_report.specs.Report.{HasSums}

-- the counts of 16 threads are small
few_of : (end : GuestEnd) → accesses_counted (counts_in end) < 2 ^ 45 → (end.reads ≤ 2 ^ 45) × (end.writes ≤ 2 ^ 45) × (end.fails ≤ 2 ^ 45)
few_of end few = (omega (arith, few), omega (arith, few), omega (arith, few))

small : (n total : ℕ) → total ≤ n * 2 ^ 45 → n ≤ 16 → total < 2 ^ 64
small n total most few = omega (arith, most, few)

pub sums : (ends : List GuestEnd) → All (λ (end : GuestEnd). accesses_counted (counts_in end) < 2 ^ 45) ends → length ends ≤ 16 → HasSums ends
sums ends all few = record {
  reads = small (length ends) (sum_by (λ (end : GuestEnd). end.reads) ends) (sum_by-le (λ (end : GuestEnd). end.reads) (2 ^ 45) ends (All-weaker (λ (end : GuestEnd). accesses_counted (counts_in end) < 2 ^ 45) (λ (end : GuestEnd). end.reads ≤ 2 ^ 45) (λ end one. (few_of end one).0) ends all)) few;
  writes = small (length ends) (sum_by (λ (end : GuestEnd). end.writes) ends) (sum_by-le (λ (end : GuestEnd). end.writes) (2 ^ 45) ends (All-weaker (λ (end : GuestEnd). accesses_counted (counts_in end) < 2 ^ 45) (λ (end : GuestEnd). end.writes ≤ 2 ^ 45) (λ end one. (few_of end one).1) ends all)) few;
  fails = small (length ends) (sum_by (λ (end : GuestEnd). end.fails) ends) (sum_by-le (λ (end : GuestEnd). end.fails) (2 ^ 45) ends (All-weaker (λ (end : GuestEnd). accesses_counted (counts_in end) < 2 ^ 45) (λ (end : GuestEnd). end.fails ≤ 2 ^ 45) (λ end one. (few_of end one).2) ends all)) few;
}

-- the cells of a closed memory
pub closed_cells : (program : Program) (size : Numbers) (bytes : List ℕ) (history seen : List Entry) (cells : List ℕ)
    → history ≡ seen → bytes ≡ program.bytes → 8 * length cells ≡ size.mem
    → ((i : ℕ) → i < length cells → slice_index cells i ≡ cell_at (monitor_after (at_rest_by size.granule bytes size.threads) (accesses_of seen)).memory i)
    → AreCells size (left_by program size history) cells
closed_cells program size bytes history seen cells same begins count each =
    subst (λ h. AreCells size (left_by program size h) cells) (sym same)
    (subst (λ b. AreCells size (monitor_after (at_rest_by size.granule b size.threads) (accesses_of seen)).memory cells) begins
    (record { count = count; each = each }))

-- the threads of a closed memory
pub ran : {I S : Type 0} (set : InstructionSet I S) (program : Program) (size : Numbers) (budget first spare : ℕ) (bytes : List ℕ) (history seen : List Entry) (ends : List GuestEnd) (cells : List ℕ)
    → history ≡ seen → bytes ≡ program.bytes → first ≡ size.threads → spare ≡ 0 → IsLegal size bytes seen → IsComplete seen → AreBorn first spare seen → AreEndsOn set program size budget seen ends → KeepsVersions size seen
    → HasSums ends → AreCells size (left_by program size history) cells
    → HaveRun set program size budget history ends cells
ran set program size budget first spare bytes history seen ends cells same begins all none legal complete born are versions sums cells_are = record {
  outcome = subst (λ h. IsOutcome set program size budget h ends) (sym same)
      (record { legal = subst (λ b. IsLegal size b seen) begins legal; complete = complete; born = subst (λ n. AreBorn size.threads n seen) none (subst (λ n. AreBorn n spare seen) all born); ends = are });
  versions = subst (λ h. KeepsVersions size h) (sym same) versions;
  sums = sums;
  left = cells_are;
}

-- and of one on which threads start others
pub ran_from : (program : Program) (size : Numbers) (budget first spare : ℕ) (bytes : List ℕ) (history seen : List Entry) (ends : List GuestEnd) (cells : List ℕ)
    → history ≡ seen → bytes ≡ program.bytes → IsLegal size bytes seen → IsComplete seen → AreBorn first spare seen → AreBegunEnds a32 program size first spare budget seen ends
    → KeepsVersions size seen → HasSums ends → AreCells size (left_by program size history) cells
    → HaveRunFrom program size first spare budget history ends cells
ran_from program size budget first spare bytes history seen ends cells same begins legal complete born are versions sums cells_are = record {
  outcome = subst (λ h. IsOutcomeFrom a32 program size first spare budget h ends) (sym same)
      (record { legal = subst (λ b. IsLegal size b seen) begins legal; complete = complete; born = born; ends = are });
  versions = subst (λ h. KeepsVersions size h) (sym same) versions;
  sums = sums;
  left = cells_are;
}

-- where none may be started, all threads began by themselves
pub unstarted : (program : Program) (size : Numbers) (budget first spare : ℕ) (history : List Entry) (ends : List GuestEnd) (cells : List ℕ)
    → spare ≡ 0 → first * (1 + spare) ≡ size.threads → HaveRun a32 program size budget history ends cells → HaveRunFrom program size first spare budget history ends cells
unstarted program size budget first spare history ends cells none all ran =
    let threads : size.threads ≡ first = sym all ∙ (rw none (mul-one first)) in
    record {
      outcome = subst (λ n. IsOutcomeFrom a32 program size first n budget history ends) (sym none)
          (subst (λ n. IsOutcomeFrom a32 program size n 0 budget history ends) threads (outcome_from a32 program size budget history ends ran.outcome));
      versions = ran.versions;
      sums = ran.sums;
      left = ran.left;
    }
