use Rattle.std.proofs.Common.{[]}
use Rattle.version_rule.proofs.StampedSteps.{looks-second}
use Rattle.version_rule.specs.declared.hands.Doing.TheVariants.{Second}
use Rattle.version_rule.specs.Hands.{hand}
use Rattle.version_rule.specs.Kept.{origin_of}
use Rattle.shared_memory.specs.Told.{Goes}
use Rattle.version_memory.proofs.Ready.{cell_word-below, ready-goes}
use Rattle.version_memory.proofs.stamped.find_cell.Goals as goal

pub load-requires : goal.load-requires
load-requires g c =
    let q = c.requires in
    let t = c.args.target in (
      q.ready.home_is,
      rw q.target.word_is (cell_word-below c.args.shared.now.key c.args.shared.now.table_id t.place q.ready.made q.target.may),
      rw (q.asked, q.target.word_is) (looks-second c.args.shared.now.key _ _ c.args.seat.now.me c.args.version t.place t.value q.ready.single q.first q.target.may.inside),
    )

pub returns-clause-goes : goal.returns-clause-goes
returns-clause-goes g c = (rw c.requires.asked at c.load.ensures.2) c.args.version c.requires.first

pub returns-clause-ready : goal.returns-clause-ready
returns-clause-ready g c =
    let goes : Goes (origin_of c.args.shared.now.key) c.args.seat.now.me [] (hand (Second c.args.target.place c.args.version c.load.result) c.args.seat.now.me.0.doing.reserve) c.load.new.seat.me =
    (rw c.requires.asked at c.load.ensures.2) c.args.version c.requires.first in
    ready-goes _ _ _ _ _ _ _ _ _ c.requires.ready c.load.ensures.0 goes
