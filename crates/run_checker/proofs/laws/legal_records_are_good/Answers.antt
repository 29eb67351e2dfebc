use Rattle.run_checker.proofs.GoodRecords.{legal_good}
use Rattle.run_checker.proofs.laws.legal_records_are_good.Goals as goal

pub returns : goal.returns
returns g c = legal_good g.C.Core.set
