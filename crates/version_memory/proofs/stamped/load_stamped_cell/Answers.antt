use Rattle.std.proofs.Common.{ap, ◌∙◌, refl}
use Rattle.version_rule.specs.declared.hands.Hand.{Hand}
use Rattle.version_rule.specs.Kept.{origin_of}
use Rattle.shared_memory.proofs.Waits.{waits-more, waits-not}
use Rattle.version_memory.proofs.Waited.{loaded-waits}
use Rattle.version_memory.proofs.stamped.load_stamped_cell.Goals as goal

pub loop-init : goal.loop-init
loop-init g c = record { waits = waits-not c.args.seat.now.me; ready = c.requires.ready; home = refl }

pub try_load-requires-clause-rest : goal.try_load-requires-clause-rest
try_load-requires-clause-rest g c = ap (λ (h : Hand). h.doing) c.loop.invariant.waits.doing_is ∙ c.requires.rest

pub returns-in-Some-try_load-clause-loaded : goal.returns-in-Some-try_load-clause-loaded
returns-in-Some-try_load-clause-loaded g c = loaded-waits (origin_of c.args.shared.now.key) c.args.seat.now.me c.loop.seat.me c.try_load.new.seat.me c.loop.invariant.waits
    c.args.target.place c.in-Some-try_load.found.cell c.in-Some-try_load.found.stamp c.in-Some-try_load.ensures.loaded

pub loop-preserved : goal.loop-preserved
loop-preserved g c = record {
  waits = waits-more (origin_of c.args.shared.now.key) c.args.seat.now.me c.loop.seat.me c.try_load.new.seat.me c.loop.invariant.waits (c.in-None-try_load.ensures.not_yet refl);
  ready = c.try_load.ensures.ready;
  home = c.try_load.ensures.home ∙ c.loop.invariant.home;
}
