-- Each log so far is unused.
use Rattle.std.proofs.Common.{◌-◌, ◌≤◌, All, vec_len}
use Rattle.run_merge.specs.Crews.{IsUnused}
use Rattle.run_merge.proofs.crews.unused_logs.Given as goal

abbrev pub invariant-loop-alloc : goal.invariant-loop-alloc
invariant-loop-alloc l = record {
  unused : All IsUnused l.logs.items;
  within : vec_len l.logs ≤ l.count;
}

abbrev pub decreases-loop-alloc : goal.decreases-loop-alloc
decreases-loop-alloc l = l.count - vec_len l.logs
