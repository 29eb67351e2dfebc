use Rattle.guest_thread.proofs.Unspared.{outcome_unspared}
use Rattle.a32_step.specs.Machine.{a32}
use Rattle.a32_guests.proofs.laws.outcomes_start_nobody.Goals as goal

pub returns : goal.returns
returns c = outcome_unspared a32
