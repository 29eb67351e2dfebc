use Rattle.version_rule.proofs.ExclusiveSteps.{absents}
use Rattle.version_rule.specs.Kept.{origin_of}
use Rattle.version_memory.proofs.Exactly.{failed-absent}
use Rattle.version_memory.proofs.Ready.{first-below}
use Rattle.version_memory.proofs.exclusive.fail_absent.Goals as goal

pub load-requires : goal.load-requires
load-requires g c =
    let q = c.requires in
    let t = c.args.target in (
      q.ready.home_is,
      first-below c.args.shared.now.key c.args.shared.now.table_id q.ready.made,
      rw q.asked (absents c.args.shared.now.key _ _ c.args.seat.now.me t.place t.value q.ready.single q.ready.acts q.rest q.other q.one q.target.may.aligned q.target.may.inside q.target.fits),
    )

pub returns-clause-failed : goal.returns-clause-failed
returns-clause-failed g c = failed-absent (origin_of c.args.shared.now.key) c.args.target.place c.args.target.value _ _ (rw c.requires.asked at c.load.ensures.2)
