use Rattle.std.proofs.Common.{◌≡◌, refl, sym, ap, ◌∙◌}
use Rattle.llsc_base.specs.Effects.{loaded_part}
use Rattle.a32_instr.specs.LoadStore.{loads, written_back}
use Rattle.a32_instr.specs.State.{writes}
use Rattle.a32_step.proofs.Acting.{acted_by_one, acted_held, held_stage}
use Rattle.a32_step.proofs.execution.Execution.load.Goals as goal

pub returns-in_default-clause-acted : goal.returns-in_default-clause-acted
returns-in_default-clause-acted g c =
    acted_held (λ had. loads c.args.image.now c.args.place (written_back c.args.back.index c.args.back.rn c.args.back.moved c.args.self.now.state) c.args.rt had c.args.self.now.state) refl c.reply_to.ensures.replied c.in_default.is

pub after-requires : goal.after-requires
after-requires g c = held_stage c.reply_to.new.self _ c.finish_load-progress.ensures.progress c.finish_load-progress.ensures.state

pub returns-clause-acted : goal.returns-clause-acted
returns-clause-acted g c =
    let value : c.loaded_word.result ≡ loaded_part c.args.place.size c.in-Some.reply = c.loaded_word.ensures ∙ ap (λ s. loaded_part s c.in-Some.reply) (sym c.requires.size) in
    acted_by_one (λ had. loads c.args.image.now c.args.place (written_back c.args.back.index c.args.back.rn c.args.back.moved c.args.self.now.state) c.args.rt had c.args.self.now.state) refl c.reply_to.ensures.replied c.in-Some.reply c.in-Some.is
    (λ s. writes (written_back c.args.back.index c.args.back.rn c.args.back.moved s) c.args.rt c.loaded_word.result) (λ rest. ap (writes (written_back c.args.back.index c.args.back.rn c.args.back.moved c.args.self.now.state) c.args.rt) (sym value))
    c.finish_load-progress.ensures.progress c.finish_load-progress.ensures.state c.after.ensures.progress c.after.ensures.complete c.after.ensures.held
