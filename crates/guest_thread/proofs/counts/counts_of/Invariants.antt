-- The counts are those of the accesses so far, and no more than these.
use Rattle.std.proofs.Common.{◌≤◌, take}
use Rattle.history.specs.Accesses.{history_of}
use Rattle.guest_thread.specs.Counting.{AreCounts, accesses_counted}
use Rattle.guest_thread.proofs.counts.counts_of.Given as goal

abbrev pub invariant-loop-access : goal.invariant-loop-access
invariant-loop-access l = record {
  counts : AreCounts l.thread (history_of (take l.access-index l.accesses)) l.counts;
  few : accesses_counted l.counts ≤ l.access-index;
}
