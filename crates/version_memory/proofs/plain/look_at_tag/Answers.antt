use Rattle.version_rule.proofs.PlainSteps.{looks-tag}
use Rattle.version_rule.specs.Kept.{origin_of}
use Rattle.shared_memory.specs.inner.Told.{ask}
use Rattle.version_rule.specs.Told.{HasFoundTag}
use Rattle.version_memory.proofs.Ready.{ready-goes, tag_word-below}
use Rattle.version_memory.proofs.plain.look_at_tag.Goals as goal

pub load-requires : goal.load-requires
load-requires g c =
    let q = c.requires in
    let t = c.args.target in (
      q.ready.home_is,
      rw q.target.tag_is (tag_word-below c.args.shared.now.key c.args.shared.now.table_id t.place q.ready.made),
      rw (q.asked, q.target.tag_is) (looks-tag c.args.shared.now.key _ _ c.args.seat.now.me t.place t.value q.ready.single q.ready.made.some_class),
    )

pub returns-clause-found : goal.returns-clause-found
returns-clause-found g c = rw c.requires.asked at c.load.ensures.2

pub returns-clause-ready : goal.returns-clause-ready
returns-clause-ready g c =
    let found : HasFoundTag (ask (origin_of c.args.shared.now.key) c.args.target.place c.args.target.value) c.args.seat.now.me c.load.result c.load.new.seat.me = rw c.requires.asked at c.load.ensures.2 in
    ready-goes _ _ _ _ _ _ _ _ _ c.requires.ready c.load.ensures.0 found.goes
