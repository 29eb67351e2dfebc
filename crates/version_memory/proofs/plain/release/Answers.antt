use Rattle.version_rule.proofs.PlainSteps.{releases}
use Rattle.version_memory.proofs.Ready.{tag_word-below}
use Rattle.version_memory.proofs.plain.release.Goals as goal

pub store-requires : goal.store-requires
store-requires g c =
    let q = c.requires in
    let t = c.args.target in (
      q.ready.home_is,
      rw q.target.tag_is (tag_word-below c.args.shared.now.key c.args.shared.now.table_id t.place q.ready.made),
      rw (q.asked, q.target.tag_is) (releases c.args.shared.now.key _ _ c.args.seat.now.me c.args.version t.place t.value q.ready.single q.ready.acts q.written q.ready.made.some_class),
    )

pub returns-clause-goes : goal.returns-clause-goes
returns-clause-goes g c = rw c.requires.asked at c.store.ensures.2
