use mathlib.Core.Option.{none}
use Rattle.atomic_table.specs.Table.{step}
use Rattle.version_rule.proofs.ExclusiveSteps.{tries-watch}
use Rattle.version_rule.specs.Kept.{origin_of}
use Rattle.version_memory.proofs.Ready.{ready-watched_or_not, tag_word-below}
use Rattle.version_memory.proofs.exclusive.try_watch.Goals as goal

pub load-requires : goal.load-requires
load-requires g c =
    let q = c.requires in
    let t = c.args.target in (
      q.ready.home_is,
      rw q.target.tag_is (tag_word-below c.args.shared.now.key c.args.shared.now.table_id t.place q.ready.made),
      rw (q.asked, q.target.tag_is) (tries-watch c.args.shared.now.key _ _ c.args.seat.now.me t.place t.value q.ready.single q.ready.acts q.rest q.ready.made.some_class),
    )

pub returns-clause-reserved : goal.returns-clause-reserved
returns-clause-reserved g c = (rw c.requires.asked at c.load.ensures.2).0

pub returns-clause-not_yet : goal.returns-clause-not_yet
returns-clause-not_yet g c = (rw c.requires.asked at c.load.ensures.2).1

pub returns-clause-most : goal.returns-clause-most
returns-clause-most g c = (rw c.requires.asked at c.load.ensures.2).2

pub returns-clause-ready : goal.returns-clause-ready
returns-clause-ready g c = ready-watched_or_not _ _ _ _ (origin_of c.args.shared.now.key) c.args.target.place c.args.target.value _ (step c.args.shared.now.table_id.slots c.args.target.tag 0 0 none) _ _ c.requires.ready c.load.ensures.0 (rw c.requires.asked at c.load.ensures.2)
