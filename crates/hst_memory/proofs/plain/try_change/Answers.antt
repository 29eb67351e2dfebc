use Rattle.hst_memory.proofs.PlainSteps.{changes}
use Rattle.hst_memory.proofs.Ready.{cell_word-below}
use Rattle.hst_memory.proofs.plain.try_change.Goals as goal

pub compare_exchange-requires : goal.compare_exchange-requires
compare_exchange-requires g c =
    let q = c.requires in (
      q.ready.home_is,
      rw q.word (cell_word-below c.args.shared.now.key c.args.shared.now.table_id c.args.place q.ready.made q.place),
      rw (q.asked, q.word, c.put.ensures) (changes c.args.shared.now.key _ _ c.args.seat.now.me c.args.cell c.args.place c.args.value q.ready.made.few q.ready.single q.begun q.place.aligned q.place.inside q.fits),
    )
