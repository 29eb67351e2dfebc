use Rattle.memory_trials.specs.inner.Tried.{IsFor}
use Rattle.memory_trials.proofs.tests.order.are_made_again.Given as goal

abbrev pub invariant-loop-access : goal.invariant-loop-access
invariant-loop-access l = IsFor l.threads l.plain
