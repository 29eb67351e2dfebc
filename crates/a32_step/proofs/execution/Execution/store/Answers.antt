use Rattle.std.proofs.Common.{refl}
use Rattle.a32_instr.specs.State.{advanced}
use Rattle.a32_instr.specs.LoadStore.{stores, written_back}
use Rattle.a32_step.proofs.Acting.{acted_done, acted_held}
use Rattle.a32_step.proofs.execution.Execution.store.Goals as goal

pub returns-in_default-clause-acted : goal.returns-in_default-clause-acted
returns-in_default-clause-acted g c =
    acted_held (λ had. stores c.args.image.now c.args.place (written_back c.args.back.index c.args.back.rn c.args.back.moved c.args.self.now.state) c.args.value had c.args.self.now.state) refl c.reply_to.ensures.replied c.in_default.is

pub returns-clause-acted : goal.returns-clause-acted
returns-clause-acted g c =
    acted_done (λ had. stores c.args.image.now c.args.place (written_back c.args.back.index c.args.back.rn c.args.back.moved c.args.self.now.state) c.args.value had c.args.self.now.state) refl c.reply_to.ensures.replied c.in-Some._reply c.in-Some.is
    (λ s. advanced (written_back c.args.back.index c.args.back.rn c.args.back.moved s)) (λ rest. refl) c.finish_store.ensures.progress c.finish_store.ensures.state
