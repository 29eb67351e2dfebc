use Rattle.guest_thread.proofs.OneOutcome.{one_list_on}
use Rattle.guest_thread.proofs.laws.histories_have_one_outcome.Goals as goal

pub returns : goal.returns
returns g c program size budget history ends others one two = one_list_on g.C.Core.set program size budget history ends others one.ends two.ends
