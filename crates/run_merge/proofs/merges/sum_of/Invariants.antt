use Rattle.std.proofs.Common.{◌≡◌, ◌≤◌, ◌*◌, sum_by, take}
use Rattle.run_merge.specs.declared.logs.Log.{Log}
use Rattle.run_merge.proofs.merges.sum_of.Given as goal

abbrev pub invariant-loop-t : goal.invariant-loop-t
invariant-loop-t l = record {
  sum : l.total ≡ sum_by (λ (log : Log). log.count) (take l.t l.logs);
  few : l.total ≤ l.t * 1000000;
}
