use Rattle.std.proofs.Common.{◌≡◌, ◌≤◌, ◌*◌, ◌^◌}
use Rattle.llsc_report.specs.Summary.{counter_of, total_of}
use Rattle.llsc_report.proofs.summary.total.Given as goal

-- the counters before this one were summed up
abbrev pub invariant-loop-i : goal.invariant-loop-i
invariant-loop-i l = record {
  sum : l.total ≡ total_of (counter_of l.rows) l.i;
  most : l.total ≤ l.i * 2 ^ 32;
}
