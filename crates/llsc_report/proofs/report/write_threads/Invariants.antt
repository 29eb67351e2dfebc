use Rattle.std.proofs.Common.{take}
use Rattle.std.specs.List.{flat_map}
use Rattle.llsc_host.specs.Writes.{Wrote}
use Rattle.llsc_report.specs.Report.{thread_text}
use Rattle.llsc_report.proofs.report.write_threads.Given as goal

-- what is said of the threads before this one was written
abbrev pub invariant-loop-end : goal.invariant-loop-end
invariant-loop-end g l = Wrote g.H.Host l.fn.host l.host (flat_map (thread_text l.fn.budget) (take l.end-index l.ends))
