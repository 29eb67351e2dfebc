use Rattle.std.proofs.Common.{ℕ, false, ap, ◌∙◌, [], ◌∷◌, refl}
use Rattle.history.specs.declared.entry.Entry.TheVariants.{Write}
use Rattle.hst_memory.specs.declared.hands.Doing.TheVariants.{Written}
use Rattle.hst_memory.specs.declared.hands.Hand.{Hand}
use Rattle.hst_memory.specs.inner.Hands.{hand}
use Rattle.hst_memory.specs.Kept.{origin_of}
use Rattle.hst_memory.proofs.Ready.{cell_word-below}
use Rattle.shared_memory.proofs.Waits.{waits-goes_by, waits-more, waits-not}
use Rattle.hst_memory.proofs.plain.change.Goals as goal

pub loop-init : goal.loop-init
loop-init g c = record { waits = waits-not c.args.seat.now.me; ready = c.requires.ready; home = refl }

pub look-cell-requires-clause-ready : goal.look-cell-requires-clause-ready
look-cell-requires-clause-ready g c = c.loop.invariant.ready

pub look-cell-requires-clause-word : goal.look-cell-requires-clause-word
look-cell-requires-clause-word g c = let q = c.requires in rw q.word (cell_word-below c.args.shared.now.key c.args.shared.now.table_id c.args.place q.ready.made q.place)

pub try_change-found-requires-clause-begun : goal.try_change-found-requires-clause-begun
try_change-found-requires-clause-begun g c =
    ap (λ (h : Hand). h.doing) c.look-cell.ensures.goes.doing_is ∙ ap (λ (h : Hand). h.doing) c.loop.invariant.waits.doing_is ∙ c.requires.begun

pub returns-then-found-cell-clause-goes : goal.returns-then-found-cell-clause-goes
returns-then-found-cell-clause-goes g c =
    waits-goes_by (origin_of c.args.shared.now.key) c.args.seat.now.me c.look-cell.new.seat.me c.try_change-found.new.seat.me
    (λ (t : ℕ). Write t c.args.place c.args.value false ∷ []) (λ (h : Hand). hand (Written c.args.place) h.reserve)
    (waits-more (origin_of c.args.shared.now.key) c.args.seat.now.me c.loop.seat.me c.look-cell.new.seat.me c.loop.invariant.waits c.look-cell.ensures.goes)
    (c.try_change-found.ensures.written c.if-found-cell.true)

pub loop-preserved : goal.loop-preserved
loop-preserved g c = record {
  waits = waits-more (origin_of c.args.shared.now.key) c.args.seat.now.me c.look-cell.new.seat.me c.try_change-found.new.seat.me
      (waits-more (origin_of c.args.shared.now.key) c.args.seat.now.me c.loop.seat.me c.look-cell.new.seat.me c.loop.invariant.waits c.look-cell.ensures.goes)
      (c.try_change-found.ensures.not_yet c.if-found-cell.false);
  ready = c.try_change-found.ensures.ready;
  home = c.try_change-found.ensures.home ∙ c.look-cell.ensures.home ∙ c.loop.invariant.home;
}
