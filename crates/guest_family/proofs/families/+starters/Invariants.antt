-- One starter fewer each time.
use Rattle.std.proofs.Common.{◌+◌, ◌*◌, vec_len}
use Rattle.guest_family.proofs.families.+starters.Given as goal

abbrev pub decreases-run_both-join+arg2 : goal.decreases-run_both-join+arg2
decreases-run_both-join+arg2 g l = 3 * vec_len l.kin.others + 1

abbrev pub decreases-run_both : goal.decreases-run_both
decreases-run_both g l = 3 * vec_len l.kin.others + 2

abbrev pub decreases-run_starters : goal.decreases-run_starters
decreases-run_starters g l = 3 * vec_len l.kin.others
