use Rattle.std.proofs.Common.{◌<◌, ◌+◌, ◌++◌, take, drop, length, rules, sym, subst}
use Rattle.std.specs.List.{flat_map}
use Rattle.llsc_host.specs.Writes.{Broke, Wrote}
use Rattle.llsc_report.specs.Report.{thread_text}
use Rattle.llsc_host.proofs.Kept.{broke_first, broke_second, stopped, wrote_both, wrote_nothing}
use Rattle.llsc_report.proofs.Sums.{split_at, text_more}
use Rattle.llsc_report.proofs.report.write_threads.Goals as goal

pub loop-end-init : goal.loop-end-init
loop-end-init g c = wrote_nothing g.H.Host c.args.host.now

pub loop-end-preserved : goal.loop-end-preserved
loop-end-preserved g c =
    let ends = c.args.ends.now in
    let i = c.loop-end.end-index in
    let within : i < length ends = search rules in
    let text = thread_text c.args.budget in
    subst (Wrote g.H.Host c.args.host.now c.write_thread.new.host) (sym (text_more text ends i c.end-item.result within c.end-item.is))
    (wrote_both g.H.Host c.args.host.now c.loop-end.host c.write_thread.new.host (flat_map text (take i ends)) (text c.end-item.result) c.loop-end.invariant c.in_ok-write_thread.ensures)

pub returns-in_err-write_thread : goal.returns-in_err-write_thread
returns-in_err-write_thread g c =
    let old = c.args.host.now in
    let mid = c.loop-end.host in
    let new = c.write_thread.new.host in
    let ends = c.args.ends.now in
    let i = c.loop-end.end-index in
    let within : i < length ends = search rules in
    let text = thread_text c.args.budget in
    let rest = flat_map text (drop (i + 1) ends) in
    stopped g.H.Host old new (flat_map text ends) c.from_residual.result _ c.from_residual.ensures.1
    (subst (Broke g.H.Host old new) (sym (split_at text ends i c.end-item.result within c.end-item.is))
    (broke_second g.H.Host old mid new (flat_map text (take i ends)) (text c.end-item.result ++ rest) c.loop-end.invariant
    (broke_first g.H.Host mid new (text c.end-item.result) rest c.in_err-write_thread.ensures)))
