use Rattle.std.proofs.Common.{◌≡◌, take}
use Rattle.std.specs.List.{sum_by}
use Rattle.llsc_report.proofs.report.counts_of.Given as goal

-- the ends before this one were counted
abbrev pub invariant-loop-end : goal.invariant-loop-end
invariant-loop-end l = record {
  reads : l.all.reads ≡ sum_by (λ end. end.reads) (take l.end-index l.ends);
  writes : l.all.writes ≡ sum_by (λ end. end.writes) (take l.end-index l.ends);
  fails : l.all.fails ≡ sum_by (λ end. end.fails) (take l.end-index l.ends);
}
