use Rattle.history.proofs.Born.{child-apart, child-below}
use Rattle.history.proofs.laws_of_starts.started_threads_have_their_numbers.Goals as goal

pub returns-clause-apart : goal.returns-clause-apart
returns-clause-apart c = child-apart

pub returns-clause-below : goal.returns-clause-below
returns-clause-below c = child-below
