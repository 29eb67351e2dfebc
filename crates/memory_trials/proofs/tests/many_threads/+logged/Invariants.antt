-- One thread fewer each time.
use Rattle.std.proofs.Common.{◌+◌, ◌*◌, vec_len}
use Rattle.memory_trials.proofs.tests.many_threads.+logged.Given as goal

abbrev pub decreases-join+arg2 : goal.decreases-join+arg2
decreases-join+arg2 g l = 2 * vec_len l.others + 1

abbrev pub decreases-log_all : goal.decreases-log_all
decreases-log_all g l = 2 * vec_len l.others
