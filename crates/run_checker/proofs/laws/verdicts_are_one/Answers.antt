use Rattle.run_checker.proofs.Right.{one_verdict}
use Rattle.run_checker.proofs.laws.verdicts_are_one.Goals as goal

pub returns : goal.returns
returns g c = one_verdict g.C.Core.set
