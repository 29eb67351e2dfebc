use Rattle.guest_machine.proofs.AllEnded.{all_ended}
use Rattle.guest_machine.proofs.laws.traces_end_each_thread.Goals as goal

pub returns : goal.returns
returns g c = all_ended g.C.Core.set
