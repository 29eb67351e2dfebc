use Rattle.guest_calls.proofs.Listed.{one_end_of_list}
use Rattle.guest_calls.proofs.laws.runs_have_one_end.Goals as goal

pub returns : goal.returns
returns g c = one_end_of_list g.C.Core.set
