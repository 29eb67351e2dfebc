use Rattle.memory_trials.specs.inner.Tried.{IsFor}
use Rattle.memory_trials.proofs.tests.order.are_laid.Given as goal

abbrev pub invariant-loop : goal.invariant-loop
invariant-loop l = IsFor l.threads l.plain
