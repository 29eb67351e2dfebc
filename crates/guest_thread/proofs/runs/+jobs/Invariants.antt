-- One job fewer each time.
use Rattle.std.proofs.Common.{◌+◌, ◌*◌, vec_len}
use Rattle.guest_thread.proofs.runs.+jobs.Given as goal

abbrev pub decreases-join+arg2 : goal.decreases-join+arg2
decreases-join+arg2 g l = 2 * vec_len l.jobs + 1

abbrev pub decreases-run_jobs : goal.decreases-run_jobs
decreases-run_jobs g l = 2 * vec_len l.jobs
