use Rattle.hst_memory.proofs.AloneSteps.{reads-ex}
use Rattle.hst_memory.proofs.Ready.{cell_word-below}
use Rattle.hst_memory.proofs.alone.read_ex.Goals as goal

pub load-requires : goal.load-requires
load-requires g c =
    let q = c.requires in (
      q.ready.home_is,
      rw q.word (cell_word-below c.args.shared.now.key c.args.shared.now.table_id c.args.place q.ready.made q.place),
      rw (q.asked, q.word) (reads-ex c.args.shared.now.key _ _ c.args.seat.now.me c.args.place c.args.value q.ready.single q.watching q.place.aligned q.place.inside),
    )
