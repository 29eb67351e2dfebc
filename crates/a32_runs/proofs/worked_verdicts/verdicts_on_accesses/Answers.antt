use Rattle.a32_runs.proofs.SmallJudgements.{bad_at_once, bad_later, good_at_once, good_load, still_asks}
use Rattle.a32_runs.proofs.SmallTaking.{all_good}
use Rattle.a32_runs.proofs.worked_verdicts.verdicts_on_accesses.Goals as goal

pub returns-clause-none : goal.returns-clause-none
returns-clause-none c = good_at_once

pub returns-clause-load : goal.returns-clause-load
returns-clause-load c = good_load

pub returns-clause-all : goal.returns-clause-all
returns-clause-all c = all_good

pub returns-clause-first : goal.returns-clause-first
returns-clause-first c = bad_at_once

pub returns-clause-second : goal.returns-clause-second
returns-clause-second c = bad_later

pub returns-clause-unfinished : goal.returns-clause-unfinished
returns-clause-unfinished c = still_asks
