use Rattle.guest_machine.proofs.OneEnd.{end_as_traced}
use Rattle.guest_machine.proofs.laws.threads_alone_end_as_traced.Goals as goal

pub returns : goal.returns
returns g c = end_as_traced g.C.Core.set
