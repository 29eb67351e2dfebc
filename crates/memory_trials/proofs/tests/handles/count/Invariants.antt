use Rattle.memory_handle.specs.Handles.{AreAlike}
use Rattle.memory_trials.proofs.tests.handles.count.Given as goal

abbrev pub invariant-loop : goal.invariant-loop
invariant-loop l = AreAlike l.fn.handle l.handle
