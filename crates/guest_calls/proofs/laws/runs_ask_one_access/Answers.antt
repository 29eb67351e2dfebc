use Rattle.guest_calls.proofs.Asked.{one_ask}
use Rattle.guest_calls.proofs.laws.runs_ask_one_access.Goals as goal

pub returns : goal.returns
returns g c = one_ask g.C.Core.set
