use Rattle.hst_memory.proofs.PlainSteps.{tags}
use Rattle.hst_memory.proofs.Ready.{tag_word-below}
use Rattle.hst_memory.proofs.plain.set_tag.Goals as goal

pub store-requires : goal.store-requires
store-requires g c =
    let q = c.requires in (
      q.ready.home_is,
      rw q.tag (tag_word-below c.args.shared.now.key c.args.shared.now.table_id _ q.ready.made),
      rw (q.asked, q.tag, q.name) (tags c.args.shared.now.key _ _ c.args.seat.now.me c.args.place c.args.value q.ready.single q.inside q.ready.made.some_class),
    )
