use Rattle.guest_machine.proofs.OneThread.{any_seed}
use Rattle.guest_machine.proofs.laws.one_thread_needs_no_seed.Goals as goal

pub returns : goal.returns
returns g c = any_seed g.C.Core.set
