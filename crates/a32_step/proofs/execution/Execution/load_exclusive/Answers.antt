use Rattle.std.proofs.Common.{refl, ap, ◌∙◌}
use Rattle.a32_instr.specs.State.{advanced}
use Rattle.llsc_base.specs.Effects.{loaded_part}
use Rattle.a32_instr.specs.Exclusive.{load_exclusive, with_loaded}
use Rattle.a32_step.specs.inner.ExecutionState.{ExecutionState}
use Rattle.a32_step.proofs.Acting.{acted_done, acted_held}
use Rattle.a32_step.proofs.Places.{load_exclusive_asks}
use Rattle.a32_step.proofs.execution.Execution.load_exclusive.Goals as goal

pub returns-in_default-clause-acted : goal.returns-in_default-clause-acted
returns-in_default-clause-acted g c =
    acted_held (λ had. load_exclusive c.args.size c.args.rn c.args.rt c.args.image.now had c.args.self.now.state)
    (load_exclusive_asks c.args.image.now c.args.size c.args.rn c.args.rt c.args.self.now.state c.operand.ensures) c.reply_to.ensures.replied c.in_default.is

pub returns-clause-acted : goal.returns-clause-acted
returns-clause-acted g c =
    acted_done (λ had. load_exclusive c.args.size c.args.rn c.args.rt c.args.image.now had c.args.self.now.state)
    (load_exclusive_asks c.args.image.now c.args.size c.args.rn c.args.rt c.args.self.now.state c.operand.ensures) c.reply_to.ensures.replied c.in-Some.reply c.in-Some.is
    (λ s. advanced (with_loaded c.args.size c.args.rt (loaded_part c.args.size c.in-Some.reply) s)) (λ rest. refl) c.advance.ensures.progress
    (c.advance.ensures.state ∙ ap (λ (s : ExecutionState). record s { state = advanced s.state }) c.set_loaded.ensures)
