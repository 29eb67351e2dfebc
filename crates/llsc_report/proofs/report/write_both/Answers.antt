use Rattle.llsc_host.proofs.Kept.{stopped_first, writes_both}
use Rattle.llsc_report.proofs.report.write_both.Goals as goal

pub returns-in_err-write : goal.returns-in_err-write
returns-in_err-write g c =
    stopped_first g.H.Host c.args.host.now c.write.new.host c.args.first.now c.args.second.now c.from_residual.result _ c.from_residual.ensures.1 c.in_err-write.ensures

pub returns : goal.returns
returns g c =
    writes_both g.H.Host c.args.host.now c.write.new.host (c.write-2).new.host c.args.first.now c.args.second.now (c.write-2).result c.in_ok-write.ensures (c.write-2).ensures
