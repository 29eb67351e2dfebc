use Rattle.hst_memory.proofs.AloneSteps.{absents}
use Rattle.hst_memory.proofs.Ready.{section-below}
use Rattle.hst_memory.proofs.alone.fail_absent.Goals as goal

pub load-requires : goal.load-requires
load-requires g c =
    let q = c.requires in (
      q.ready.home_is,
      section-below c.args.shared.now.key c.args.shared.now.table_id q.ready.made,
      rw q.asked (absents c.args.shared.now.key _ _ c.args.seat.now.me c.args.target.place c.args.target.value q.ready.single q.rest q.other q.one q.target.may.aligned q.target.may.inside q.target.fits),
    )
