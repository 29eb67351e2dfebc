use Rattle.llsc_call.proofs.RecordsGood.{good_again}
use Rattle.llsc_call.proofs.laws.records_are_good.Goals as goal

pub returns : goal.returns
returns c = good_again
