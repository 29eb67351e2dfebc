use Rattle.std.proofs.Common.{ℕ, true, ◌∙◌, [], ◌∷◌, refl}
use Rattle.history.specs.declared.entry.Entry.TheVariants.{Write}
use Rattle.hst_memory.specs.declared.hands.Doing.TheVariants.{AloneWritten}
use Rattle.hst_memory.specs.declared.hands.Reserve.TheVariants.{Nothing}
use Rattle.hst_memory.specs.declared.hands.Hand.{Hand}
use Rattle.hst_memory.specs.inner.Hands.{hand}
use Rattle.hst_memory.specs.Kept.{origin_of}
use Rattle.shared_memory.proofs.Waits.{waits-goes_by, waits-more, waits-not}
use Rattle.hst_memory.proofs.alone.change_alone.Goals as goal

pub loop-init : goal.loop-init
loop-init g c = record { waits = waits-not c.args.seat.now.me; ready = c.requires.ready; home = refl }

pub look_at_cell-cell-requires-clause-ready : goal.look_at_cell-cell-requires-clause-ready
look_at_cell-cell-requires-clause-ready g c = c.loop.invariant.ready

pub try_change_alone-found-requires-clause-begun : goal.try_change_alone-found-requires-clause-begun
try_change_alone-found-requires-clause-begun g c = c.look_at_cell-cell.ensures.goes.doing_is ∙ c.loop.invariant.waits.doing_is ∙ c.requires.begun

pub returns-then-found-cell-clause-goes : goal.returns-then-found-cell-clause-goes
returns-then-found-cell-clause-goes g c =
    waits-goes_by (origin_of c.args.shared.now.key) c.args.seat.now.me c.look_at_cell-cell.new.seat.me c.try_change_alone-found.new.seat.me
    (λ (t : ℕ). Write t c.args.target.place c.args.target.value true ∷ []) (λ (h : Hand). hand (AloneWritten c.args.target.place) Nothing)
    (waits-more (origin_of c.args.shared.now.key) c.args.seat.now.me c.loop.seat.me c.look_at_cell-cell.new.seat.me c.loop.invariant.waits c.look_at_cell-cell.ensures.goes)
    (c.try_change_alone-found.ensures.written c.if-found-cell.true)

pub loop-preserved : goal.loop-preserved
loop-preserved g c = record {
  waits = waits-more (origin_of c.args.shared.now.key) c.args.seat.now.me c.look_at_cell-cell.new.seat.me c.try_change_alone-found.new.seat.me
      (waits-more (origin_of c.args.shared.now.key) c.args.seat.now.me c.loop.seat.me c.look_at_cell-cell.new.seat.me c.loop.invariant.waits c.look_at_cell-cell.ensures.goes)
      (c.try_change_alone-found.ensures.not_yet c.if-found-cell.false);
  ready = c.try_change_alone-found.ensures.ready;
  home = c.try_change_alone-found.ensures.home ∙ c.look_at_cell-cell.ensures.home ∙ c.loop.invariant.home;
}
