use Rattle.guest_calls.proofs.Asked.{asks_or_ends}
use Rattle.guest_calls.proofs.laws.runs_ask_or_end.Goals as goal

pub returns : goal.returns
returns g c = asks_or_ends g.C.Core.set
