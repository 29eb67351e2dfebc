use Rattle.version_rule.proofs.Closing.{looks-left}
use Rattle.version_memory.proofs.Ready.{cell_word-below}
use Rattle.version_memory.proofs.leaving.look_at_left.Goals as goal

pub load-requires : goal.load-requires
load-requires g c =
    let q = c.requires in (
      q.home,
      rw q.word (cell_word-below c.args.shared.now.key c.args.shared.now.table_id c.args.place q.made q.place),
      rw (q.asked, q.word) (looks-left c.args.shared.now.key _ _ c.args.seat.now.me c.args.place 0 q.all q.rest q.place.inside),
    )

pub returns-clause-found : goal.returns-clause-found
returns-clause-found g c = rw c.requires.asked at c.load.ensures.2
