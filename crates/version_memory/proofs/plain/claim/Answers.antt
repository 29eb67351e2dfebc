use mathlib.Core.Option.{none}
use Rattle.atomic_table.specs.Table.{step}
use Rattle.version_rule.specs.Kept.{origin_of}
use Rattle.std.proofs.Common.{◌+◌}
use Rattle.version_rule.proofs.PlainSteps.{claims}
use Rattle.version_memory.proofs.Ready.{ready-claimed, tag_word-below}
use Rattle.version_memory.proofs.plain.claim.Goals as goal

pub compare_exchange-found-requires : goal.compare_exchange-found-requires
compare_exchange-found-requires g c =
    let q = c.requires in
    let t = c.args.target in (
      q.ready.home_is,
      rw q.target.tag_is (tag_word-below c.args.shared.now.key c.args.shared.now.table_id t.place q.ready.made),
      rw (q.asked, q.target.tag_is) (claims c.args.shared.now.key _ _ c.args.seat.now.me c.args.version t.place t.value q.ready.single q.ready.acts q.rest q.ready.made.some_class q.even q.room),
    )

pub returns-clause-ready : goal.returns-clause-ready
returns-clause-ready g c = ready-claimed _ _ _ _ (origin_of c.args.shared.now.key) c.args.target.place c.args.target.value _ (step c.args.shared.now.table_id.slots c.args.target.tag c.args.version (c.args.version + 1) none) _ _ c.requires.ready c.compare_exchange-found.ensures.0 (rw c.requires.asked at c.compare_exchange-found.ensures.2)
