use Rattle.std.proofs.Common.{◌∙◌, subst}
use Rattle.std.specs.List.{flat_map}
use Rattle.llsc_host.specs.Writes.{Writes}
use Rattle.llsc_report.specs.Report.{last_line, thread_text}
use Rattle.llsc_host.proofs.Kept.{stopped_first, writes_both}
use Rattle.llsc_report.proofs.report.write_report.Goals as goal

pub returns-in_err-write_threads : goal.returns-in_err-write_threads
returns-in_err-write_threads g c =
    stopped_first g.H.Host c.args.host.now c.write_threads.new.host (flat_map (thread_text c.args.budget) c.args.ends.now) (last_line c.args.ends.now) c.from_residual.result _ c.from_residual.ensures.1
    c.in_err-write_threads.ensures

pub returns : goal.returns
returns g c =
    writes_both g.H.Host c.args.host.now c.write_threads.new.host c.write.new.host (flat_map (thread_text c.args.budget) c.args.ends.now) (last_line c.args.ends.now) c.write.result
    c.in_ok-write_threads.ensures
    (subst (λ t. Writes g.H.Host c.write_threads.new.host c.write.new.host t c.write.result) (c.bytes.ensures.text ∙ c.last_line-last.ensures) c.write.ensures)
