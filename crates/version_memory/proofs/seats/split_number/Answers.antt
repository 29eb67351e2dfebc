use Rattle.version_memory.proofs.Ready.{first-below}
use Rattle.version_rule.proofs.SeatSteps.{splits}
use Rattle.version_memory.proofs.seats.split_number.Goals as goal

pub split_seat-requires : goal.split_seat-requires
split_seat-requires g c =
    let q = c.requires in (
      q.home,
      first-below c.args.shared.now.key c.args.shared.now.table_id q.made,
      rw (q.gives.0, q.gives.1) (splits c.args.shared.now.key _ c.args.seat.now.me.0 c.args.t c.args.lead q.whole.0 q.whole.1 q.has q.fresh),
    )
