use Rattle.std.proofs.Common.{◌≡◌, arith, rules, true}
use Rattle.a32_step.specs.RowActs.{is_met_row}
use Rattle.a32_step.proofs.Conditions.{under_always}
use Rattle.a32_step.proofs.kept.row_under.Goals as goal

pub returns-in-None : goal.returns-in-None
returns-in-None c =
    let is : c.args.cond ≡ 14 = omega (arith, c.in-None.ensures.always) in
    let met : is_met_row c.args.row ≡ true = search rules in
    record { does = under_always c.args.cond c.args.row is; met = met }
