use Rattle.std.proofs.Common.{refl}
use Rattle.a32_instr.specs.State.{advanced}
use Rattle.a32_instr.specs.Exclusive.{clear_exclusive}
use Rattle.a32_step.proofs.Acting.{acted_done, acted_held}
use Rattle.a32_step.proofs.execution.Execution.clear_exclusive.Goals as goal

pub returns-in_default-clause-acted : goal.returns-in_default-clause-acted
returns-in_default-clause-acted g c = acted_held (λ had. clear_exclusive had c.args.self.now.state) refl c.reply_to.ensures.replied c.in_default.is

pub returns-clause-acted : goal.returns-clause-acted
returns-clause-acted g c =
    acted_done (λ had. clear_exclusive had c.args.self.now.state) refl c.reply_to.ensures.replied c.in-Some._reply c.in-Some.is
    (λ s. advanced s) (λ rest. refl) c.advance.ensures.progress c.advance.ensures.state
