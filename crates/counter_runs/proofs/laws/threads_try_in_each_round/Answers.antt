use Rattle.counter_runs.proofs.Counted.{tries_of_run}
use Rattle.counter_runs.proofs.laws.threads_try_in_each_round.Goals as goal

pub returns : goal.returns
returns c = tries_of_run
