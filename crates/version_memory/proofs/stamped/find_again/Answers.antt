use mathlib.Core.Option.{none}
use Rattle.atomic_table.specs.Table.{step}
use Rattle.version_rule.proofs.StampedSteps.{looks-third}
use Rattle.version_rule.specs.Kept.{origin_of}
use Rattle.version_memory.proofs.Ready.{ready-third, tag_word-below}
use Rattle.version_memory.proofs.stamped.find_again.Goals as goal

pub load-requires : goal.load-requires
load-requires g c =
    let q = c.requires in
    let t = c.args.target in (
      q.ready.home_is,
      rw q.target.tag_is (tag_word-below c.args.shared.now.key c.args.shared.now.table_id t.place q.ready.made),
      rw (q.asked, q.target.tag_is) (looks-third c.args.shared.now.key _ _ c.args.seat.now.me c.args.version c.args.cell t.place t.value q.ready.single q.ready.acts q.second q.ready.made.some_class q.target.may.aligned q.target.may.inside),
    )

pub returns-clause-same : goal.returns-clause-same
returns-clause-same g c = ((rw c.requires.asked at c.load.ensures.2) c.args.version c.args.cell c.requires.second).0

pub returns-clause-other : goal.returns-clause-other
returns-clause-other g c = ((rw c.requires.asked at c.load.ensures.2) c.args.version c.args.cell c.requires.second).1

pub returns-clause-ready : goal.returns-clause-ready
returns-clause-ready g c = ready-third _ _ _ _ (origin_of c.args.shared.now.key) c.args.target.place c.args.target.value c.args.version c.args.cell _ (step c.args.shared.now.table_id.slots c.args.target.tag 0 0 none) _ _ c.requires.ready c.load.ensures.0 c.requires.second (rw c.requires.asked at c.load.ensures.2)
