use Rattle.std.proofs.Common.{ap, ◌∙◌, refl}
use Rattle.version_rule.specs.declared.hands.Hand.{Hand}
use Rattle.version_rule.specs.Kept.{origin_of}
use Rattle.shared_memory.proofs.Waits.{waits-more, waits-not}
use Rattle.version_memory.proofs.Waited.{linked-waits}
use Rattle.version_memory.proofs.stamped.load_ex_stamped_cell.Goals as goal

pub loop-init : goal.loop-init
loop-init g c = record { waits = waits-not c.args.seat.now.me; ready = c.requires.ready; home = refl }

pub try_load_ex-requires-clause-rest : goal.try_load_ex-requires-clause-rest
try_load_ex-requires-clause-rest g c = ap (λ (h : Hand). h.doing) c.loop.invariant.waits.doing_is ∙ c.requires.rest

pub returns-in-Some-try_load_ex-clause-loaded : goal.returns-in-Some-try_load_ex-clause-loaded
returns-in-Some-try_load_ex-clause-loaded g c = linked-waits (origin_of c.args.shared.now.key) c.args.seat.now.me c.loop.seat.me c.try_load_ex.new.seat.me c.loop.invariant.waits
    c.args.target.place c.in-Some-try_load_ex.linked.cell c.in-Some-try_load_ex.linked.tag c.in-Some-try_load_ex.ensures.loaded

pub loop-preserved : goal.loop-preserved
loop-preserved g c = record {
  waits = waits-more (origin_of c.args.shared.now.key) c.args.seat.now.me c.loop.seat.me c.try_load_ex.new.seat.me c.loop.invariant.waits (c.in-None-try_load_ex.ensures.not_yet refl);
  ready = c.try_load_ex.ensures.ready;
  home = c.try_load_ex.ensures.home ∙ c.loop.invariant.home;
}
