use Rattle.version_rule.proofs.StartSteps.{starts-child}
use Rattle.version_memory.proofs.Ready.{child-from, child-known, start_word-below}
use Rattle.version_memory.proofs.starts.start_child.Goals as goal

pub store-requires : goal.store-requires
store-requires g c =
    let q = c.requires in
    let key = c.args.shared.now.key in
    let made = q.ready.made in (
      q.ready.home_is,
      rw q.word (start_word-below key c.args.shared.now.table_id c.args.child made (child-from key _ _ _ q.child) (child-known key _ _ _ made.all q.first q.few q.child)),
      rw (q.born, q.word) (starts-child key _ _ c.args.seat.now.me c.args.child c.args.entry c.args.arg q.ready.single q.rest made.all q.first q.few q.child),
    )

pub returns-clause-goes : goal.returns-clause-goes
returns-clause-goes g c = rw c.requires.born at c.store.ensures.2
