-- One thread fewer to start each time.
use Rattle.std.proofs.Common.{◌+◌, ◌*◌, vec_len}
use Rattle.guest_family.proofs.starters.+starters.Given as goal

abbrev pub decreases-join+arg2 : goal.decreases-join+arg2
decreases-join+arg2 g l = 2 * vec_len l.rest.spares + 1

abbrev pub decreases-run_on : goal.decreases-run_on
decreases-run_on g l = 2 * vec_len l.starter.spares
