use Rattle.guest_thread.proofs.OneOutcome.{one_list}
use Rattle.guest_thread.proofs.laws.histories_end_threads_in_one_way.Goals as goal

pub returns : goal.returns
returns g c = one_list g.C.Core.set
