use Rattle.std.proofs.Common.{take}
use Rattle.llsc_host.proofs.Streams.{appends_on, appends_kept}
use Rattle.llsc_host.proofs.real_host.write_whole.Goals as goal
use Rattle.llsc_host.proofs.real_host.write_whole.Goals.{in-Ok, in-Err}

pub loop-preserved : goal.loop-preserved
loop-preserved g c =
    elim c.match-write.branch [
      | in-Ok w ↦
          rw w.done-is (appends_on (g.W.Write.contents c.args.output.now) (g.W.Write.contents c.loop.output) (g.W.Write.contents c.write.new.self)
          c.args.bytes.now c.loop.done w.in-Ok.count c.loop.invariant w.in-Ok.ensures.bytes)
      | in-Err w ↦
          rw w.done-is (appends_kept (g.W.Write.contents c.args.output.now) (g.W.Write.contents c.loop.output) (g.W.Write.contents c.write.new.self)
          (take c.loop.done c.args.bytes.now) c.loop.invariant w.in-Err.ensures.bytes)
    ]
