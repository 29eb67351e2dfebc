use Rattle.std.proofs.Common.{◌<◌, length, arith}
use Rattle.run_checker.proofs.EachThread.{all_brought, taken, weaker_err, weaker_ok}
use Rattle.run_checker.proofs.checker.Checker.step.Goals as goal

pub returns-clause-wrong : goal.returns-clause-wrong
returns-clause-wrong g c =
    let known : c.args.access.thread < length c.args.self.now.guests.items = omega arith in
    weaker_err c.make.result _ _
    (λ why wrong size early brought.
    wrong size early (taken g.C.Core.set g.C.Core.machine c.args.image.now size c.args.budget early c.args.self.now c.args.access.thread c.index_mut-guest.result.now brought known c.index_mut-guest.ensures.value) brought.memory)
    c.make.ensures.wrong

pub returns-clause-right : goal.returns-clause-right
returns-clause-right g c =
    let known : c.args.access.thread < length c.args.self.now.guests.items = omega arith in
    weaker_ok c.make.result _ _
    (λ sighting right size early brought.
    let step = right size early (taken g.C.Core.set g.C.Core.machine c.args.image.now size c.args.budget early c.args.self.now c.args.access.thread c.index_mut-guest.result.now brought known c.index_mut-guest.ensures.value) brought.memory in
    (step.right, step.sighted, all_brought g.C.Core.set g.C.Core.machine c.args.image.now size c.args.budget early c.args.access sighting c.args.self.now c.make.new.guest c.make.new.memory brought step))
    c.make.ensures.right
