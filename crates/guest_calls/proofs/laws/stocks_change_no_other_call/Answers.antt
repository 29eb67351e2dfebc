use Rattle.guest_calls.proofs.Pieces.{reaches_plain}
use Rattle.guest_calls.proofs.laws.stocks_change_no_other_call.Goals as goal

pub returns : goal.returns
returns g c = reaches_plain g.C.Core.set
