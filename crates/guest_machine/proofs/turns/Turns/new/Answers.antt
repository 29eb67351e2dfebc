use Rattle.std.proofs.Common.{ap, arith, ◌∙◌}
use Rattle.std.specs.List.{range_with_len}
use Rattle.history.specs.Monitor.{at_rest_by}
use Rattle.guest_machine.proofs.Turning.{at_start}
use Rattle.guest_machine.proofs.turns.Turns.new.Goals as goal

pub returns-clause-under_way : goal.returns-clause-under_way
returns-clause-under_way g c =
    at_start g.C.Core.set c.args.plan.now.image.now c.args.plan.now.size.now c.args.plan.now.seed c.args.plan.now.budget _ _ _ _
    (c.in_ok-numbers.ensures ∙ ap (range_with_len 0) c.threads-threads.ensures.number)
    c.in_ok-seats.ensures
    (c.in_ok-sized.ensures ∙ ap (λ b. at_rest_by c.args.plan.now.size.now.granule b c.args.plan.now.size.now.threads) c.bytes.ensures.items)
    c.new.ensures.items

pub returns-clause-small : goal.returns-clause-small
returns-clause-small g c = omega (arith, c.requires.whole, c.mem-mem.ensures.number, c.if-prove.false)

pub returns-in_err-seats-clause-small : goal.returns-in_err-seats-clause-small
returns-in_err-seats-clause-small g c = omega (arith, c.requires.whole, c.mem-mem.ensures.number, c.if-prove.false)

pub returns-in_err-sized-clause-small : goal.returns-in_err-sized-clause-small
returns-in_err-sized-clause-small g c = omega (arith, c.requires.whole, c.mem-mem.ensures.number, c.if-prove.false)
