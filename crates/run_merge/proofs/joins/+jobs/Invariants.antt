-- One job fewer each time.
use Rattle.std.proofs.Common.{◌+◌, ◌*◌, vec_len}
use Rattle.run_merge.proofs.joins.+jobs.Given as goal

abbrev pub decreases-join+arg2 : goal.decreases-join+arg2
decreases-join+arg2 g l = 2 * vec_len l.jobs + 1

abbrev pub decreases-log_jobs : goal.decreases-log_jobs
decreases-log_jobs g l = 2 * vec_len l.jobs
