use Rattle.hst_memory.proofs.AloneSteps.{leaves-alone}
use Rattle.hst_memory.proofs.Ready.{section-below}
use Rattle.hst_memory.proofs.alone.leave_alone.Goals as goal

pub store-requires : goal.store-requires
store-requires g c =
    let q = c.requires in (
      q.ready.home_is,
      section-below c.args.shared.now.key c.args.shared.now.table_id q.ready.made,
      rw q.asked (leaves-alone c.args.shared.now.key _ _ c.args.seat.now.me c.args.place c.args.value q.ready.made.few q.ready.single q.done),
    )
