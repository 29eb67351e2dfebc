use Rattle.history.proofs.Born.{first-alone, none-started}
use Rattle.history.proofs.laws_of_starts.none_is_started_where_none_is_spare.Goals as goal

pub returns-clause-none : goal.returns-clause-none
returns-clause-none c = none-started

pub returns-clause-first : goal.returns-clause-first
returns-clause-first c = first-alone
