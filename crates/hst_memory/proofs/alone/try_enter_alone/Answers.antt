use Rattle.hst_memory.proofs.AloneSteps.{enters-alone}
use Rattle.hst_memory.proofs.Ready.{section-below}
use Rattle.hst_memory.proofs.alone.try_enter_alone.Goals as goal

pub compare_exchange-found-requires : goal.compare_exchange-found-requires
compare_exchange-found-requires g c =
    let q = c.requires in (
      q.ready.home_is,
      section-below c.args.shared.now.key c.args.shared.now.table_id q.ready.made,
      rw q.asked (enters-alone c.args.shared.now.key _ _ c.args.seat.now.me c.args.place c.args.value q.ready.single q.rest),
    )
