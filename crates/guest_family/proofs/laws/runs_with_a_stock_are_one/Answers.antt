use Rattle.guest_family.proofs.OneRun.{one_stock_run}
use Rattle.guest_family.proofs.laws.runs_with_a_stock_are_one.Goals as goal

pub returns : goal.returns
returns c = one_stock_run
