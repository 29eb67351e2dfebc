use Rattle.std.proofs.Common.{ℕ, [], ◌∷◌, ap, ◌∙◌, refl}
use Rattle.llsc_base.specs.Memory.{row_of}
use Rattle.history.specs.declared.entry.Entry.TheVariants.{Miss, Watch}
use Rattle.version_rule.specs.declared.hands.Doing.TheVariants.{Looking}
use Rattle.version_rule.specs.declared.hands.Reserve.TheVariants.{Nothing, Row}
use Rattle.version_rule.specs.declared.hands.Hand.{Hand}
use Rattle.version_rule.specs.Hands.{hand}
use Rattle.version_rule.specs.Kept.{origin_of}
use Rattle.shared_memory.proofs.Waits.{waits-goes_by, waits-more, waits-not}
use Rattle.version_memory.proofs.exclusive.watch_within.Goals as goal

pub loop-init : goal.loop-init
loop-init g c = record { waits = waits-not c.args.seat.now.me; ready = c.requires.ready; home = refl }

pub try_watch-tag-requires-clause-rest : goal.try_watch-tag-requires-clause-rest
try_watch-tag-requires-clause-rest g c = ap (λ (h : Hand). h.doing) c.loop.invariant.waits.doing_is ∙ c.requires.rest

pub returns-then-tag-eq0-clause-reserved : goal.returns-then-tag-eq0-clause-reserved
returns-then-tag-eq0-clause-reserved g c even = waits-goes_by (origin_of c.args.shared.now.key) c.args.seat.now.me c.loop.seat.me c.try_watch-tag.new.seat.me
    (λ (t : ℕ). Watch t c.args.target.place ∷ []) (λ (h : Hand). hand (Looking c.args.target.place) (Row (row_of c.args.shared.now.key.size.granule c.args.target.place) c.try_watch-tag.result))
    c.loop.invariant.waits (c.try_watch-tag.ensures.reserved even)

pub returns-then-tag-eq0-clause-looking : goal.returns-then-tag-eq0-clause-looking
returns-then-tag-eq0-clause-looking g c = ap (λ (h : Hand). h.doing) (c.try_watch-tag.ensures.reserved c.if-tag-eq0.true).doing_is

pub loop-preserved : goal.loop-preserved
loop-preserved g c = record {
  waits = waits-more (origin_of c.args.shared.now.key) c.args.seat.now.me c.loop.seat.me c.try_watch-tag.new.seat.me c.loop.invariant.waits (c.try_watch-tag.ensures.not_yet c.if-tag-eq0.false);
  ready = c.try_watch-tag.ensures.ready;
  home = c.try_watch-tag.ensures.home ∙ c.loop.invariant.home;
}

pub watch-requires-clause-rest : goal.watch-requires-clause-rest
watch-requires-clause-rest g c = ap (λ (h : Hand). h.doing) c.loop.invariant.waits.doing_is ∙ c.requires.rest

pub returns-clause-reserved : goal.returns-clause-reserved
returns-clause-reserved g c even = waits-goes_by (origin_of c.args.shared.now.key) c.args.seat.now.me c.loop.seat.me c.watch.new.seat.me
    (λ (t : ℕ). Watch t c.args.target.place ∷ []) (λ (h : Hand). hand (Looking c.args.target.place) (Row (row_of c.args.shared.now.key.size.granule c.args.target.place) c.watch.result))
    c.loop.invariant.waits (c.watch.ensures.reserved even)

pub returns-clause-missed : goal.returns-clause-missed
returns-clause-missed g c odd = waits-goes_by (origin_of c.args.shared.now.key) c.args.seat.now.me c.loop.seat.me c.watch.new.seat.me
    (λ (t : ℕ). Miss t c.args.target.place ∷ []) (λ (h : Hand). hand (Looking c.args.target.place) Nothing)
    c.loop.invariant.waits (c.watch.ensures.missed odd)
