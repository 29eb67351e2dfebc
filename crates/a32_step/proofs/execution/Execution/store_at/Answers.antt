use Rattle.std.proofs.Common.{◌≡◌, ◌+◌, ℕ, refl, sym, ap, subst, ◌∙◌, rules, slice_index}
use Rattle.llsc_base.specs.declared.access.Place.{Place}
use Rattle.llsc_base.specs.declared.outside.Ask.TheVariants as ask
use Rattle.a32_instr.specs.LoadStore.{part_of, written_back}
use Rattle.a32_instr.specs.State.{State, advanced}
use Rattle.guest_core.specs.inner.Asking.{asked_first}
use Rattle.a32_step.specs.inner.ExecutionState.{ExecutionState}
use Rattle.a32_step.specs.RowActs.{stores_at}
use Rattle.llsc_base.specs.Words.{low32}
use Rattle.a32_step.specs.declared.phases.Progress.TheVariants.{Complete}
use Rattle.a32_step.specs.inner.Acting.{IsActed}
use Rattle.a32_step.specs.inner.Coming.{IsCome, held, next}
use Rattle.a32_step.proofs.Acting.{acted_done, acted_held}
use Rattle.a32_step.proofs.execution.Execution.store_at.Goals as goal

pub returns-in_default-clause-came : goal.returns-in_default-clause-came
returns-in_default-clause-came g c =
    let stored = part_of c.args.byte (slice_index c.args.self.now.state.regs c.args.kept.now.d) in
    let value : c.part_stored-value.result ≡ stored = search rules in
    held c.reply_to.new.self c.reply_to.new.source (acted_held (λ had. stores_at c.args.index c.args.byte c.args.kept.now c.args.moved c.args.image.now had c.args.self.now.state)
    (ap (λ (p : Place). asked_first c.args.image.now (ask.Store p stored)) (sym c.place.ensures)
    ∙ ap (λ (v : ℕ). asked_first c.args.image.now (ask.Store c.place.result v)) (sym value)) c.reply_to.ensures.replied c.in_default.is)

pub returns-clause-came : goal.returns-clause-came
returns-clause-came g c =
    let index = c.args.index in
    let kept = c.args.kept.now in
    let old = c.args.self.now.state in
    let stored = part_of c.args.byte (slice_index old.regs kept.d) in
    let value : c.part_stored-value.result ≡ stored = search rules in
    let acted : IsActed g.S.Source.replies (λ had. stores_at index c.args.byte kept c.args.moved c.args.image.now had old) c.args.self.now c.args.source.now Complete c.go_next.new.self c.reply_to.new.source =
    acted_done (λ had. stores_at index c.args.byte kept c.args.moved c.args.image.now had old)
    (ap (λ (p : Place). asked_first c.args.image.now (ask.Store p stored)) (sym c.place.ensures)
    ∙ ap (λ (v : ℕ). asked_first c.args.image.now (ask.Store c.place.result v)) (sym value)) c.reply_to.ensures.replied c.in-Some._reply c.in-Some.is
    (λ (s : State). advanced (written_back index kept.n c.args.moved s))
    (λ rest. refl)
    refl (c.go_next.ensures.state ∙ ap (λ (e : ExecutionState). record e { state = advanced e.state }) c.move_kept_base.ensures.state) in
    let at : c.go_next.new.self.state.pc ≡ low32 (old.pc + 4) =
    ap (λ (e : ExecutionState). e.state.pc) c.go_next.ensures.state ∙ ap (λ (pc : ℕ). low32 (pc + 4)) (c.move_kept_base.ensures.pc ∙ ap (λ (e : ExecutionState). e.state.pc) c.in-Some.ensures.same) in
    subst (λ came. IsCome g.S.Source.replies (λ had. stores_at index c.args.byte kept c.args.moved c.args.image.now had old) c.args.self.now c.args.source.now came c.go_next.new.self c.reply_to.new.source) (sym c.go_next.ensures.came) (next c.go_next.new.self c.reply_to.new.source acted at)
