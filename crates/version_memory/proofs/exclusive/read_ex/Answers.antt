use Rattle.version_rule.proofs.ExclusiveSteps.{reads-ex}
use Rattle.version_memory.proofs.Ready.{cell_word-below}
use Rattle.version_memory.proofs.exclusive.read_ex.Goals as goal

pub load-requires : goal.load-requires
load-requires g c =
    let q = c.requires in
    let t = c.args.target in (
      q.ready.home_is,
      rw q.target.word_is (cell_word-below c.args.shared.now.key c.args.shared.now.table_id t.place q.ready.made q.target.may),
      rw (q.asked, q.target.word_is) (reads-ex c.args.shared.now.key _ _ c.args.seat.now.me t.place t.value q.ready.single q.ready.acts q.looking q.target.may.aligned q.target.may.inside),
    )

pub returns-clause-goes : goal.returns-clause-goes
returns-clause-goes g c = rw c.requires.asked at c.load.ensures.2
