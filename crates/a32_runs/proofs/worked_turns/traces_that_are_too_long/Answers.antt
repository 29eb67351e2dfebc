use Rattle.std.proofs.Common.{lit<, lit≤}
use Rattle.a32_runs.proofs.LoopingRuns.{not_too_many, too_many}
use Rattle.a32_runs.proofs.worked_turns.traces_that_are_too_long.Goals as goal

pub returns-clause-one_more : goal.returns-clause-one_more
returns-clause-one_more c = too_many 2000001 1000001 (lit< tt) (lit< tt)

pub returns-clause-a_million : goal.returns-clause-a_million
returns-clause-a_million c = not_too_many 1000000 (lit≤ tt)
