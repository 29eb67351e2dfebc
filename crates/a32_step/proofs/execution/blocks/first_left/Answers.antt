use Rattle.std.proofs.Common.{rules, subst}
use Rattle.a32_compute.specs.Lists.{AreLeft}
use Rattle.a32_compute.proofs.Lists.{left_first}
use Rattle.a32_step.proofs.execution.blocks.first_left.Goals as goal

pub returns-then-had-eq0 : goal.returns-then-had-eq0
returns-then-had-eq0 c = subst (AreLeft c.args.list 0) (search rules) (left_first c.args.list)
