use Rattle.std.proofs.Common.{ap, ◌∙◌, refl}
use Rattle.version_rule.specs.declared.hands.Hand.{Hand}
use Rattle.version_rule.specs.Kept.{origin_of}
use Rattle.shared_memory.proofs.Waits.{waits-more, waits-not}
use Rattle.version_memory.proofs.Waited.{none-waits, stored-waits}
use Rattle.version_memory.proofs.plain.store_later.Goals as goal

pub loop-init : goal.loop-init
loop-init g c = record { waits = waits-not c.args.seat.now.me; ready = c.requires.ready; home = refl }

pub try_store-requires-clause-rest : goal.try_store-requires-clause-rest
try_store-requires-clause-rest g c = ap (λ (h : Hand). h.doing) c.loop.invariant.waits.doing_is ∙ c.requires.rest

pub returns-in-Done-clause-done : goal.returns-in-Done-clause-done
returns-in-Done-clause-done g c = stored-waits (origin_of c.args.shared.now.key) c.args.seat.now.me c.loop.seat.me c.try_store.new.seat.me c.loop.invariant.waits
    c.args.target.place c.args.target.value c.in-Done.stamp (c.in-Done.ensures.done c.in-Done.stamp refl)

pub returns-in-Spent-clause-spent : goal.returns-in-Spent-clause-spent
returns-in-Spent-clause-spent g c is =
    let spent = c.in-Spent.ensures.spent refl in
    (none-waits (origin_of c.args.shared.now.key) c.args.seat.now.me c.loop.seat.me c.try_store.new.seat.me c.loop.invariant.waits spent.0, spent.1)

pub loop-preserved : goal.loop-preserved
loop-preserved g c = record {
  waits = waits-more (origin_of c.args.shared.now.key) c.args.seat.now.me c.loop.seat.me c.try_store.new.seat.me c.loop.invariant.waits (c.in-Waits.ensures.waits refl);
  ready = c.try_store.ensures.ready;
  home = c.try_store.ensures.home ∙ c.loop.invariant.home;
}
