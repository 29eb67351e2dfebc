use Rattle.guest_thread.proofs.Unstarted.{outcome_from}
use Rattle.guest_thread.proofs.laws.outcomes_without_a_spare.Goals as goal

pub returns : goal.returns
returns g c = outcome_from g.C.Core.set
