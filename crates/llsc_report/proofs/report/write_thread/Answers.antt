use Rattle.std.proofs.Common.{◌++◌, codes, ◌∙◌, subst}
use Rattle.llsc_host.specs.Writes.{Broke, Writes, Wrote}
use Rattle.llsc_report.specs.Report.{head_line}
use Rattle.llsc_host.proofs.Kept.{stopped_first, writes_both}
use Rattle.llsc_report.proofs.report.write_thread.Goals as goal

pub returns-in_err-write : goal.returns-in_err-write
returns-in_err-write g c =
    stopped_first g.H.Host c.args.host.now c.write.new.host (head_line c.args.budget c.args.end.now) (c.args.end.now.out ++ codes "\n") c.from_residual.result _ c.from_residual.ensures.1
    (subst (Broke g.H.Host c.args.host.now c.write.new.host) (c.bytes.ensures.text ∙ c.head_line-head.ensures) c.in_err-write.ensures)

pub returns : goal.returns
returns g c =
    writes_both g.H.Host c.args.host.now c.write.new.host c.write_output.new.host (head_line c.args.budget c.args.end.now) (c.args.end.now.out ++ codes "\n") c.write_output.result
    (subst (Wrote g.H.Host c.args.host.now c.write.new.host) (c.bytes.ensures.text ∙ c.head_line-head.ensures) c.in_ok-write.ensures)
    (subst (λ t. Writes g.H.Host c.write.new.host c.write_output.new.host (t ++ codes "\n") c.write_output.result) c.bytes-2.ensures.bytes c.write_output.ensures)
