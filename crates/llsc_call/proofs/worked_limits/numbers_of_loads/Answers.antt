-- Whether a number of classes is a power of two, by its digits.
use lib.Count.{ones}
use Rattle.std.proofs.Common.{refl}
use Rattle.llsc_call.proofs.worked_limits.numbers_of_loads.Goals as goal

pub returns : goal.returns
unfolding ones
returns c = record {
  least = refl;
  greatest = refl;
  no_thread = refl;
  too_many_threads = refl;
  no_round = refl;
  too_many_rounds = refl;
  threads_first = refl;
  no_guest = refl;
}
