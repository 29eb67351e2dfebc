use Rattle.hst_memory.proofs.AloneSteps.{watches}
use Rattle.hst_memory.proofs.Ready.{tag_word-below}
use Rattle.hst_memory.proofs.alone.watch.Goals as goal

pub store-requires : goal.store-requires
store-requires g c =
    let q = c.requires in (
      q.ready.home_is,
      rw q.tag (tag_word-below c.args.shared.now.key c.args.shared.now.table_id _ q.ready.made),
      rw (q.asked, q.tag, q.name) (watches c.args.shared.now.key _ _ c.args.seat.now.me c.args.place c.args.value q.ready.made.few q.ready.single q.alone q.ready.made.some_class),
    )
