use Rattle.std.proofs.Common.{refl, ap, ◌∙◌}
use Rattle.a32_instr.specs.State.{advanced, with_register}
use Rattle.llsc_base.specs.Words.{low32}
use Rattle.a32_instr.specs.Exclusive.{store_exclusive}
use Rattle.a32_step.specs.inner.ExecutionState.{ExecutionState}
use Rattle.a32_step.proofs.Acting.{acted_done, acted_held}
use Rattle.a32_step.proofs.Places.{store_exclusive_asks}
use Rattle.a32_step.proofs.execution.Execution.store_exclusive.Goals as goal

pub returns-in_default-clause-acted : goal.returns-in_default-clause-acted
returns-in_default-clause-acted g c =
    acted_held (λ had. store_exclusive c.args.size c.args.rn c.args.rd c.args.rt c.args.image.now had c.args.self.now.state)
    (store_exclusive_asks c.args.image.now c.args.size c.args.rn c.args.rd c.args.rt c.args.self.now.state c.operand.ensures c.part_to_store-value.ensures) c.reply_to.ensures.replied c.in_default.is

pub returns-clause-acted : goal.returns-clause-acted
returns-clause-acted g c =
    acted_done (λ had. store_exclusive c.args.size c.args.rn c.args.rd c.args.rt c.args.image.now had c.args.self.now.state)
    (store_exclusive_asks c.args.image.now c.args.size c.args.rn c.args.rd c.args.rt c.args.self.now.state c.operand.ensures c.part_to_store-value.ensures) c.reply_to.ensures.replied c.in-Some.reply c.in-Some.is
    (λ s. advanced (with_register s c.args.rd (low32 c.in-Some.reply))) (λ rest. refl) c.advance.ensures.progress
    (c.advance.ensures.state ∙ ap (λ (s : ExecutionState). record s { state = advanced s.state }) c.set.ensures
    ∙ ap (λ v. record c.reply_to.new.self { state = advanced (with_register c.reply_to.new.self.state c.args.rd v) }) c.low_word-status.ensures)
