use Rattle.std.proofs.Common.{◌∙◌}
use Rattle.version_memory.proofs.Ready.{first-below}
use Rattle.version_rule.proofs.SeatSteps.{joins, settle}
use Rattle.version_memory.proofs.seats.join_numbers.Goals as goal

pub join_seat-requires : goal.join_seat-requires
join_seat-requires c =
    let q = c.requires in (
      q.home.0,
      q.home.1,
      q.slots,
      first-below c.args.shared.now.key c.args.shared.now.table_id q.made,
      joins c.args.shared.now.key _ c.args.seat.now.me.0 _ c.args.other.me.0 q.rest.0 q.rest.1 q.leads.0 q.leads.1,
    )

pub load-requires : goal.load-requires
load-requires c = (c.join_seat.ensures.0 ∙ c.requires.home.0, first-below c.args.shared.now.key c.args.shared.now.table_id c.requires.made, settle c.args.shared.now.key _ _ c.join_seat.new.seat.me)

pub returns-clause-both : goal.returns-clause-both
returns-clause-both c = rw c.join_seat.ensures.2 at c.load.ensures.2
