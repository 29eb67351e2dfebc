use Rattle.guest_calls.proofs.FewAccesses.{steps_within}
use Rattle.guest_calls.proofs.laws.runs_keep_to_their_budget.Goals as goal

pub returns : goal.returns
returns g c = steps_within g.C.Core.set
