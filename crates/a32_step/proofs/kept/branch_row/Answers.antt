use Rattle.std.proofs.Common.{◌≡◌, rules}
use Rattle.a32_step.proofs.Conditions.{branch_always}
use Rattle.a32_step.proofs.kept.branch_row.Goals as goal

pub returns-in_default-clause-does : goal.returns-in_default-clause-does
returns-in_default-clause-does c =
    let is : c.args.cond ≡ 14 = search rules in
    branch_always c.args.cond is
