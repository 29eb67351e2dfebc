use mathlib.Core.Option.{none}
use Rattle.atomic_table.specs.Table.{step}
use Rattle.version_rule.specs.Kept.{origin_of}
use Rattle.std.proofs.Common.{◌+◌}
use Rattle.version_rule.proofs.ExclusiveSteps.{claims-ex}
use Rattle.version_memory.proofs.Ready.{ready-claimed_ex, tag_word-below}
use Rattle.version_memory.proofs.exclusive.claim_ex.Goals as goal

pub compare_exchange-requires : goal.compare_exchange-requires
compare_exchange-requires g c =
    let q = c.requires in
    let t = c.args.target in (
      q.ready.home_is,
      rw q.target.tag_is (tag_word-below c.args.shared.now.key c.args.shared.now.table_id t.place q.ready.made),
      rw (q.asked, q.target.tag_is) (claims-ex c.args.shared.now.key _ _ c.args.seat.now.me c.args.version t.place t.value q.ready.single q.ready.acts q.reserved q.ready.made.some_class q.room q.target.may.aligned q.target.may.inside q.target.fits),
    )

pub returns-clause-ready : goal.returns-clause-ready
returns-clause-ready g c = ready-claimed_ex _ _ _ _ (origin_of c.args.shared.now.key) c.args.target.place c.args.target.value _ (step c.args.shared.now.table_id.slots c.args.target.tag c.args.version (c.args.version + 1) none) _ _ c.requires.ready c.compare_exchange.ensures.0 (rw c.requires.asked at c.compare_exchange.ensures.2)
