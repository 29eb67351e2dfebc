use Rattle.std.proofs.Common.{◌≡◌}
use Rattle.memory_trials.proofs.tests.logged.log_accesses.Given as goal

abbrev pub invariant-loop-access : goal.invariant-loop-access
invariant-loop-access g l = record {
  home : g.M.SharedMemory.home l.pass ≡ g.M.SharedMemory.home l.fn.logged.1;
  numbers : g.M.SharedMemory.numbers l.pass ≡ g.M.SharedMemory.numbers l.fn.logged.1;
}
