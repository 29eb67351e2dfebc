use Rattle.guest_machine.proofs.OneTrace.{not_too_long}
use Rattle.guest_machine.proofs.laws.short_traces_are_not_too_long.Goals as goal

pub returns : goal.returns
returns g c = not_too_long g.C.Core.set
