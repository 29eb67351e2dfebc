use Rattle.a32_runs.proofs.SmallTaking.{failed_right, kept_right, not_stored, stale, stored_right, taken_right}
use Rattle.a32_runs.proofs.worked_verdicts.accesses_behind_others.Goals as goal

pub returns-clause-taken : goal.returns-clause-taken
returns-clause-taken c = taken_right

pub returns-clause-not_taken : goal.returns-clause-not_taken
returns-clause-not_taken c = failed_right

pub returns-clause-stored : goal.returns-clause-stored
returns-clause-stored c = stored_right

pub returns-clause-stale : goal.returns-clause-stale
returns-clause-stale c = stale

pub returns-clause-kept : goal.returns-clause-kept
returns-clause-kept c = kept_right

pub returns-clause-failed : goal.returns-clause-failed
returns-clause-failed c = not_stored
