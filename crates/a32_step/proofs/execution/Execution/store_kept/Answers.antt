use Rattle.std.proofs.Common.{subst}
use Rattle.a32_step.specs.RowActs.{stores_at}
use Rattle.a32_step.specs.inner.Coming.{IsCome}
use Rattle.a32_step.proofs.execution.Execution.store_kept.Goals as goal

pub returns-clause-came : goal.returns-clause-came
returns-clause-came g c =
    subst (λ moved. IsCome g.S.Source.replies (λ had. stores_at c.args.index c.args.byte c.args.kept.now moved c.args.image.now had c.args.self.now.state) c.args.self.now c.args.source.now c.store_at.result
    c.store_at.new.self c.store_at.new.source) c.moved-moved.ensures c.store_at.ensures.came
