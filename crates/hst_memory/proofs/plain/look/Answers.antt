use Rattle.hst_memory.proofs.PlainSteps.{looks}
use Rattle.hst_memory.proofs.Ready.{ready-goes}
use Rattle.hst_memory.proofs.plain.look.Goals as goal

pub load-requires : goal.load-requires
load-requires g c =
    let q = c.requires in
    (q.ready.home_is, q.word, rw q.asked (looks c.args.shared.now.key _ _ c.args.seat.now.me c.args.word c.args.place c.args.value q.ready.single))

pub returns-clause-goes : goal.returns-clause-goes
returns-clause-goes g c = rw c.requires.asked at c.load.ensures.2

pub returns-clause-ready : goal.returns-clause-ready
returns-clause-ready g c = ready-goes _ _ _ _ _ _ _ _ _ c.requires.ready c.load.ensures.0 c.load.ensures.2
