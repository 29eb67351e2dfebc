use Rattle.memory_trials.specs.inner.Tried.{IsFor}
use Rattle.memory_trials.proofs.tests.order.lay_round.Given as goal

abbrev pub invariant-loop-left : goal.invariant-loop-left
invariant-loop-left l = IsFor l.threads l.plain
