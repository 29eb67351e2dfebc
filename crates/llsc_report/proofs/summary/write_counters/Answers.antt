use Rattle.std.proofs.Common.{◌+◌, ap, sym, subst, ◌∙◌, arith}
use Rattle.llsc_host.specs.Writes.{Broke, Wrote}
use Rattle.llsc_report.specs.Summary.{counter_line, counter_lines, counter_of}
use Rattle.llsc_report.proofs.Counted.{counters_broke, counters_more, no_lines}
use Rattle.llsc_host.proofs.Kept.{broke_second, stopped, wrote_both, wrote_nothing}
use Rattle.llsc_report.proofs.summary.write_counters.Goals as goal

pub loop-index-init : goal.loop-index-init
loop-index-init g c =
    subst (Wrote g.H.Host c.args.host.now c.args.host.now) (sym (no_lines (counter_of c.args.rows.now))) (wrote_nothing g.H.Host c.args.host.now)

pub loop-index-preserved : goal.loop-index-preserved
loop-index-preserved g c =
    let held = counter_of c.args.rows.now in
    let i = c.loop-index.index in
    subst (Wrote g.H.Host c.args.host.now c.write.new.host) (sym (counters_more held i))
    (wrote_both g.H.Host c.args.host.now c.loop-index.host c.write.new.host (counter_lines held i) (counter_line i (held i)) c.loop-index.invariant
    (subst (Wrote g.H.Host c.loop-index.host c.write.new.host) (c.bytes.ensures.text ∙ c.counter_line-line.ensures ∙ ap (counter_line i) c.counter.ensures.value) c.in_ok-write.ensures))

pub returns-in_err-write : goal.returns-in_err-write
returns-in_err-write g c =
    let held = counter_of c.args.rows.now in
    let i = c.loop-index.index in
    let old = c.args.host.now in
    let mid = c.loop-index.host in
    let new = c.write.new.host in
    stopped g.H.Host old new (counter_lines held 16) c.from_residual.result _ c.from_residual.ensures.1
    (counters_broke g.H.Host held (i + 1) 16 old new (omega arith)
    (subst (Broke g.H.Host old new) (sym (counters_more held i))
    (broke_second g.H.Host old mid new (counter_lines held i) (counter_line i (held i)) c.loop-index.invariant
    (subst (Broke g.H.Host mid new) (c.bytes.ensures.text ∙ c.counter_line-line.ensures ∙ ap (counter_line i) c.counter.ensures.value) c.in_err-write.ensures))))
