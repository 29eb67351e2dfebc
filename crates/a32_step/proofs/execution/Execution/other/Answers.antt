use Rattle.a32_step.specs.inner.Coming.{held, jumped}
use Rattle.a32_step.proofs.execution.Execution.other.Goals as goal

pub returns-in-Complete-clause-came : goal.returns-in-Complete-clause-came
returns-in-Complete-clause-came g c = jumped c.act.new.self c.act.new.source c.in-Complete.ensures.acted

pub returns-in-Held-clause-came : goal.returns-in-Held-clause-came
returns-in-Held-clause-came g c = held c.act.new.self c.act.new.source c.in-Held.ensures.acted
