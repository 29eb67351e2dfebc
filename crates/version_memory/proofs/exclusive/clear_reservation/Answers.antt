use Rattle.version_rule.proofs.ExclusiveSteps.{clears}
use Rattle.version_memory.proofs.Ready.{first-below}
use Rattle.version_memory.proofs.exclusive.clear_reservation.Goals as goal

pub load-requires : goal.load-requires
load-requires g c =
    let q = c.requires in (
      q.ready.home_is,
      first-below c.args.shared.now.key c.args.shared.now.table_id q.ready.made,
      rw q.asked (clears c.args.shared.now.key _ _ c.args.seat.now.me g.J.Asks.ask.place g.J.Asks.ask.value q.ready.single q.ready.acts q.rest),
    )
