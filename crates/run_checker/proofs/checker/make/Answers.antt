use Rattle.std.proofs.Common.{sym, ◌∙◌}
use Rattle.run_checker.proofs.Makes.{brings_on}
use Rattle.run_checker.proofs.checker.make.Goals as goal

pub returns-in_default-clause-wrong : goal.returns-in_default-clause-wrong
returns-in_default-clause-wrong g c size early come was =
    record {
      stop = c.in_default.field-0;
      steps = c.next.new.self.steps;
      output = c.next.new.self.output;
      ends = c.in_default.ensures.comes _ _ come;
    }

pub returns-clause-right : goal.returns-clause-right
returns-clause-right g c size early come was =
    let asks = c.in-Asks.ensures.comes _ _ come in
    brings_on g.C.Core.set g.C.Core.machine c.args.image.now size c.args.budget early c.args.access _ c.in-Asks.ask c.reply_of.result c.next.new.self c.give.new.self c.args.memory.now c.serve.new.memory
    asks.0 asks.1 (sym c.is_asked.ensures ∙ c.if-not-is_asked.false) c.pc.ensures.pc c.steps.ensures c.held_at.ensures was c.in_default-serve.ensures.served c.reply_of.ensures c.give.ensures.comes

pub returns-clause-ready : goal.returns-clause-ready
returns-clause-ready g c = c.give.ensures.ready _ _ c.in-Asks.ensures.pending.waiting
