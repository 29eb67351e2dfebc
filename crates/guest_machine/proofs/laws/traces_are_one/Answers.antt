use Rattle.guest_machine.proofs.OneTrace.{one_trace}
use Rattle.guest_machine.proofs.laws.traces_are_one.Goals as goal

pub returns : goal.returns
returns g c = one_trace g.C.Core.set
