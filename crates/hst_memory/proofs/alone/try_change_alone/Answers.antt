use Rattle.hst_memory.proofs.AloneSteps.{changes-alone}
use Rattle.hst_memory.proofs.Ready.{cell_word-below}
use Rattle.hst_memory.proofs.alone.try_change_alone.Goals as goal

pub compare_exchange-requires : goal.compare_exchange-requires
compare_exchange-requires g c =
    let q = c.requires in (
      q.ready.home_is,
      rw q.target.word_is (cell_word-below c.args.shared.now.key c.args.shared.now.table_id c.args.target.place q.ready.made q.target.may),
      rw (q.asked, q.target.word_is, c.put-new.ensures) (changes-alone c.args.shared.now.key _ _ c.args.seat.now.me c.args.cell c.args.target.place c.args.target.value q.ready.made.few q.ready.single q.begun q.target.may.aligned q.target.may.inside q.target.fits),
    )
