use Rattle.guest_thread.specs.Start.{thread_start}
use Rattle.guest_machine.proofs.OneEnd.{one_end_alone}
use Rattle.guest_machine.proofs.laws.threads_alone_have_one_end.Goals as goal

pub returns-clause-any_start : goal.returns-clause-any_start
returns-clause-any_start g c = one_end_alone g.C.Core.set

pub returns-clause-solo : goal.returns-clause-solo
returns-clause-solo g c = λ program size budget end other one two.
    one_end_alone g.C.Core.set program budget (thread_start g.C.Core.set program size size.threads 0) size.granule program.bytes end other one.1 two.1
