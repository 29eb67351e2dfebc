use Rattle.guest_calls.proofs.Asked.{one_end_on}
use Rattle.guest_calls.proofs.laws.runs_have_one_end_on_limits.Goals as goal

pub returns : goal.returns
returns g c = one_end_on g.C.Core.set
