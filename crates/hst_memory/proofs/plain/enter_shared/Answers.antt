use Rattle.std.proofs.Common.{ℕ, [], ap, ◌∙◌, refl}
use Rattle.hst_memory.specs.declared.hands.Doing.TheVariants.{Inside}
use Rattle.hst_memory.specs.declared.hands.Hand.{Hand}
use Rattle.hst_memory.specs.inner.Hands.{hand}
use Rattle.hst_memory.specs.Kept.{origin_of}
use Rattle.shared_memory.proofs.Waits.{waits-goes_by, waits-more, waits-not}
use Rattle.hst_memory.proofs.plain.enter_shared.Goals as goal

pub loop-init : goal.loop-init
loop-init g c = record { waits = waits-not c.args.seat.now.me; ready = c.requires.ready; home = refl }

pub try_enter-requires-clause-ready : goal.try_enter-requires-clause-ready
try_enter-requires-clause-ready g c = c.loop.invariant.ready

pub try_enter-requires-clause-rest : goal.try_enter-requires-clause-rest
try_enter-requires-clause-rest g c = ap (λ (h : Hand). h.doing) c.loop.invariant.waits.doing_is ∙ c.requires.rest

pub returns-then-try_enter-clause-goes : goal.returns-then-try_enter-clause-goes
returns-then-try_enter-clause-goes g c =
    waits-goes_by (origin_of c.args.shared.now.key) c.args.seat.now.me c.loop.seat.me c.try_enter.new.seat.me
    (λ (t : ℕ). []) (λ (h : Hand). hand (Inside c.args.place) h.reserve)
    c.loop.invariant.waits c.if-try_enter.ensures.entered

pub loop-preserved : goal.loop-preserved
loop-preserved g c = record {
  waits = waits-more (origin_of c.args.shared.now.key) c.args.seat.now.me c.loop.seat.me c.try_enter.new.seat.me c.loop.invariant.waits c.if-try_enter.ensures.not_yet;
  ready = c.try_enter.ensures.ready;
  home = c.try_enter.ensures.home ∙ c.loop.invariant.home;
}
