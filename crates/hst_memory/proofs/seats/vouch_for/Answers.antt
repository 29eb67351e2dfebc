use Rattle.hst_memory.proofs.Ready.{section-below}
use Rattle.hst_memory.proofs.SeatSteps.{vouches}
use Rattle.hst_memory.proofs.seats.vouch_for.Goals as goal

pub load-requires : goal.load-requires
load-requires g c =
    let q = c.requires in (
      q.home,
      section-below c.args.shared.now.key c.args.shared.now.table_id q.made,
      rw q.asked (vouches c.args.shared.now.key _ _ c.args.seat.now.me g.J.Asks.ask.place g.J.Asks.ask.value),
    )

pub returns-clause-vouched : goal.returns-clause-vouched
returns-clause-vouched g c = rw c.requires.asked at c.load.ensures.2
