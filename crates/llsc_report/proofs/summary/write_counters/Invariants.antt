use Rattle.llsc_host.specs.Writes.{Wrote}
use Rattle.llsc_report.specs.Summary.{counter_lines, counter_of}
use Rattle.llsc_report.proofs.summary.write_counters.Given as goal

-- the lines of the counters before this one were written
abbrev pub invariant-loop-index : goal.invariant-loop-index
invariant-loop-index g l = Wrote g.H.Host l.fn.host l.host (counter_lines (counter_of l.rows) l.index)
