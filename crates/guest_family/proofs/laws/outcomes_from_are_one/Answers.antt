use Rattle.guest_family.proofs.OneFamily.{one_outcome_from}
use Rattle.guest_family.proofs.laws.outcomes_from_are_one.Goals as goal

pub returns : goal.returns
returns c = one_outcome_from
