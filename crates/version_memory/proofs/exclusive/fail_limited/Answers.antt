use Rattle.version_rule.proofs.ExclusiveSteps.{limits}
use Rattle.version_memory.proofs.Ready.{first-below}
use Rattle.version_memory.proofs.exclusive.fail_limited.Goals as goal

pub load-requires : goal.load-requires
load-requires g c =
    let q = c.requires in
    let t = c.args.target in (
      q.ready.home_is,
      first-below c.args.shared.now.key c.args.shared.now.table_id q.ready.made,
      rw q.asked (limits c.args.shared.now.key _ _ c.args.seat.now.me c.args.version t.place t.value q.ready.single q.ready.acts q.reserved q.limit q.target.may.aligned q.target.may.inside q.target.fits),
    )

pub returns-clause-decides : goal.returns-clause-decides
returns-clause-decides g c = rw c.requires.asked at c.load.ensures.2
