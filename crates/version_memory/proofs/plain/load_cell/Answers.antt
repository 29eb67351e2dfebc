use Rattle.version_rule.proofs.PlainSteps.{loads}
use Rattle.version_memory.proofs.Ready.{cell_word-below}
use Rattle.version_memory.proofs.plain.load_cell.Goals as goal

pub load-requires : goal.load-requires
load-requires g c =
    let q = c.requires in (
      q.ready.home_is,
      rw q.word (cell_word-below c.args.shared.now.key c.args.shared.now.table_id c.args.place q.ready.made q.place),
      rw (q.asked, q.word) (loads c.args.shared.now.key _ _ c.args.seat.now.me c.args.place q.ready.single q.ready.acts q.rest q.place.aligned q.place.inside),
    )

pub returns-clause-goes : goal.returns-clause-goes
returns-clause-goes g c = rw c.requires.asked at c.load.ensures.2
