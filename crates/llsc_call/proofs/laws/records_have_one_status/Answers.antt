use Rattle.llsc_call.proofs.OneAnswer.{one_status}
use Rattle.llsc_call.proofs.laws.records_have_one_status.Goals as goal

pub returns : goal.returns
returns c = one_status
