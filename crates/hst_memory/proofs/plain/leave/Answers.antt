use Rattle.hst_memory.proofs.PlainSteps.{leaves}
use Rattle.hst_memory.proofs.Ready.{section-below}
use Rattle.hst_memory.proofs.plain.leave.Goals as goal

pub fetch_sub-requires : goal.fetch_sub-requires
fetch_sub-requires g c =
    let q = c.requires in (
      q.ready.home_is,
      section-below c.args.shared.now.key c.args.shared.now.table_id q.ready.made,
      rw q.asked (leaves c.args.shared.now.key _ _ c.args.seat.now.me c.args.place c.args.value q.ready.made.few q.ready.single q.written),
    )
