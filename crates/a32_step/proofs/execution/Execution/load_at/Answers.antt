use Rattle.std.proofs.Common.{◌≡◌, ◌+◌, ℕ, refl, sym, ap, subst, ◌∙◌}
use Rattle.llsc_base.specs.declared.access.Place.{Place}
use Rattle.llsc_base.specs.declared.outside.Ask.TheVariants as ask
use Rattle.llsc_base.specs.Effects.{loaded_part, completes}
use Rattle.a32_instr.specs.LoadStore.{access_size, written_back}
use Rattle.a32_instr.specs.State.{State, advanced, with_register}
use Rattle.guest_core.specs.inner.Asking.{asked_first}
use Rattle.a32_step.specs.inner.ExecutionState.{ExecutionState}
use Rattle.a32_step.specs.RowActs.{loads_at}
use Rattle.llsc_base.specs.Words.{low32}
use Rattle.a32_step.specs.declared.phases.Progress.TheVariants.{Complete}
use Rattle.a32_step.specs.inner.Acting.{IsActed}
use Rattle.a32_step.specs.inner.Coming.{IsCome, held, next}
use Rattle.a32_step.proofs.Acting.{acted_done, acted_held}
use Rattle.a32_step.proofs.RowDone.{writes_low}
use Rattle.a32_step.proofs.execution.Execution.load_at.Goals as goal

pub returns-in_default-clause-came : goal.returns-in_default-clause-came
returns-in_default-clause-came g c =
    held c.reply_to.new.self c.reply_to.new.source (acted_held (λ had. loads_at c.args.index c.args.byte c.args.kept.now c.args.moved c.args.image.now had c.args.self.now.state)
    (ap (λ (p : Place). asked_first c.args.image.now (ask.Load p)) (sym c.place.ensures)) c.reply_to.ensures.replied c.in_default.is)

pub returns-clause-came : goal.returns-clause-came
returns-clause-came g c =
    let index = c.args.index in
    let kept = c.args.kept.now in
    let old = c.args.self.now.state in
    let value = c.loaded_word.result in
    let back = written_back index kept.n c.args.moved old in
    let acted : IsActed g.S.Source.replies (λ had. loads_at index c.args.byte kept c.args.moved c.args.image.now had old) c.args.self.now c.args.source.now Complete c.put.new.self c.reply_to.new.source =
    acted_done (λ had. loads_at index c.args.byte kept c.args.moved c.args.image.now had old)
    (ap (λ (p : Place). asked_first c.args.image.now (ask.Load p)) (sym c.place.ensures)) c.reply_to.ensures.replied c.in-Some.reply c.in-Some.is
    (λ (s : State). advanced (with_register (written_back index kept.n c.args.moved s) kept.d value))
    (λ rest.
    writes_low back kept.d (loaded_part (access_size c.args.byte) c.in-Some.reply) c.put.ensures.low
    ∙ ap (λ v. completes (advanced (with_register back kept.d v))) (sym c.loaded_word.ensures))
    refl (c.put.ensures.state ∙ ap (λ (e : ExecutionState). record e { state = advanced (with_register e.state kept.d value) }) c.move_kept_base.ensures.state) in
    let at : c.put.new.self.state.pc ≡ low32 (old.pc + 4) =
    ap (λ (e : ExecutionState). e.state.pc) c.put.ensures.state ∙ ap (λ (pc : ℕ). low32 (pc + 4)) (c.move_kept_base.ensures.pc ∙ ap (λ (e : ExecutionState). e.state.pc) c.in-Some.ensures.same) in
    subst (λ came. IsCome g.S.Source.replies (λ had. loads_at index c.args.byte kept c.args.moved c.args.image.now had old) c.args.self.now c.args.source.now came c.put.new.self c.reply_to.new.source) (sym c.put.ensures.came) (next c.put.new.self c.reply_to.new.source acted at)
