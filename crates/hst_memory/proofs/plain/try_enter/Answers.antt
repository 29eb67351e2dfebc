use Rattle.std.proofs.Common.{ℕ, [], ap, ◌∙◌}
use Rattle.std.proofs.lemmas.Bool.{OnFalse_at, OnFalse_from, OnTrue_at, OnTrue_from}
use Rattle.hst_memory.specs.declared.hands.Doing.TheVariants.{Inside}
use Rattle.hst_memory.specs.declared.hands.Hand.{Hand}
use Rattle.hst_memory.specs.inner.Hands.{hand}
use Rattle.hst_memory.specs.Kept.{origin_of}
use Rattle.shared_memory.proofs.Sequences.{goes-then_by}
use Rattle.hst_memory.proofs.Ready.{section-below}
use Rattle.hst_memory.proofs.plain.try_enter.Goals as goal

pub look-inside-requires-clause-word : goal.look-inside-requires-clause-word
look-inside-requires-clause-word g c = section-below c.args.shared.now.key c.args.shared.now.table_id c.requires.ready.made

pub enter-requires-clause-rest : goal.enter-requires-clause-rest
enter-requires-clause-rest g c = ap (λ (h : Hand). h.doing) c.look-inside.ensures.goes.doing_is ∙ c.requires.rest

pub returns-clause-entered : goal.returns-clause-entered
returns-clause-entered g c = OnTrue_from c.enter.result _ (λ is. goes-then_by (origin_of c.args.shared.now.key) c.args.seat.now.me c.look-inside.new.seat.me c.enter.new.seat.me
    [] c.args.seat.now.me.0.doing (λ (t : ℕ). []) (λ (h : Hand). hand (Inside c.args.place) h.reserve) c.look-inside.ensures.goes (OnTrue_at is c.enter.ensures.entered))

pub returns-clause-not_yet : goal.returns-clause-not_yet
returns-clause-not_yet g c = OnFalse_from c.enter.result _ (λ is. goes-then_by (origin_of c.args.shared.now.key) c.args.seat.now.me c.look-inside.new.seat.me c.enter.new.seat.me
    [] c.args.seat.now.me.0.doing (λ (t : ℕ). []) (λ (h : Hand). h) c.look-inside.ensures.goes (OnFalse_at is c.enter.ensures.not_yet))
