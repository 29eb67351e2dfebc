use Rattle.a32_runs.proofs.SmallVerdicts.{left, no_reservation, not_asked, wrong_value}
use Rattle.a32_runs.proofs.worked_verdicts.wrong_accesses.Goals as goal

pub returns-clause-after_stop : goal.returns-clause-after_stop
returns-clause-after_stop c = left 0

pub returns-clause-not_asked : goal.returns-clause-not_asked
returns-clause-not_asked c = not_asked

pub returns-clause-wrong_value : goal.returns-clause-wrong_value
returns-clause-wrong_value c = wrong_value

pub returns-clause-no_reservation : goal.returns-clause-no_reservation
returns-clause-no_reservation c = no_reservation
