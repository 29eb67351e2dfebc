use Rattle.std.proofs.Common.{◌<◌, ℕ, sym, subst}
use Rattle.version_rule.proofs.StartSteps.{knows-own}
use Rattle.version_memory.proofs.Ready.{awaiting-goes, first-below}
use Rattle.version_memory.proofs.starts.know_own.Goals as goal

pub load-requires : goal.load-requires
load-requires g c =
    let q = c.requires in (
      q.awaiting.home_is,
      first-below c.args.shared.now.key c.args.shared.now.table_id q.awaiting.made,
      rw q.asked (knows-own c.args.shared.now.key _ _ c.args.seat.now.me g.J.Asks.ask.place g.J.Asks.ask.value q.awaiting.single),
    )

pub returns-clause-goes : goal.returns-clause-goes
returns-clause-goes g c = (rw c.requires.asked at c.load.ensures.2).0

pub returns-clause-below : goal.returns-clause-below
returns-clause-below g c =
    let told = rw c.requires.asked at c.load.ensures.2 in
    subst (λ (t : ℕ). t < c.args.shared.now.key.size.threads) (sym told.0.lead) told.1

pub returns-clause-awaiting : goal.returns-clause-awaiting
returns-clause-awaiting g c = awaiting-goes _ _ _ _ _ _ _ _ _ c.requires.awaiting c.load.ensures.0 (rw c.requires.asked at c.load.ensures.2).0
