use Rattle.std.proofs.Common.{subst}
use Rattle.a32_step.specs.RowActs.{loads_at}
use Rattle.a32_step.specs.inner.Coming.{IsCome}
use Rattle.a32_step.proofs.execution.Execution.load_kept.Goals as goal

pub returns-clause-came : goal.returns-clause-came
returns-clause-came g c =
    subst (λ moved. IsCome g.S.Source.replies (λ had. loads_at c.args.index c.args.byte c.args.kept.now moved c.args.image.now had c.args.self.now.state) c.args.self.now c.args.source.now c.load_at.result
    c.load_at.new.self c.load_at.new.source) c.moved-moved.ensures c.load_at.ensures.came
