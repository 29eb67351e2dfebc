use Rattle.std.proofs.Common.{inl, inr}
use Rattle.std.proofs.lemmas.Bool.{cases_eq, eq-eqb, ne_eqb}
use Rattle.version_rule.proofs.StartSteps.{looks-start}
use Rattle.version_memory.proofs.Ready.{awaiting-goes, start_word-below}
use Rattle.version_memory.proofs.starts.look_at_start.Goals as goal

pub load-requires : goal.load-requires
load-requires g c =
    let q = c.requires in
    let key = c.args.shared.now.key in (
      q.awaiting.home_is,
      rw q.word (start_word-below key c.args.shared.now.table_id c.args.seat.now.me.0.lead q.awaiting.made q.awaiting.from q.below),
      rw (q.asked, q.word) (looks-start key _ _ c.args.seat.now.me g.J.Asks.ask.place g.J.Asks.ask.value q.awaiting.single q.awaiting.from),
    )

pub returns-clause-goes : goal.returns-clause-goes
returns-clause-goes g c = (rw c.requires.asked at c.load.ensures.2).0

pub returns-clause-started : goal.returns-clause-started
returns-clause-started g c =
    let told = rw c.requires.asked at c.load.ensures.2 in
    elim (cases_eq c.load.result 1) [
      | inl one ↦ rw (eq-eqb c.load.result 1 one) (told.1 one)
      | inr other ↦ rw (ne_eqb c.load.result 1 other) tt
    ]

pub returns-clause-awaiting : goal.returns-clause-awaiting
returns-clause-awaiting g c = awaiting-goes _ _ _ _ _ _ _ _ _ c.requires.awaiting c.load.ensures.0 (rw c.requires.asked at c.load.ensures.2).0
