use Rattle.std.proofs.Common.{◌≡◌, ℕ}
use Rattle.history.specs.Started.{MayAct}
use Rattle.shared_memory.specs.Seen.{IsSingle}
use Rattle.memory_trials.proofs.tests.starts.count.Given as goal

abbrev pub invariant-loop : goal.invariant-loop
invariant-loop g l = record {
  home : g.M.SharedMemory.home l.pass ≡ g.M.SharedMemory.home l.fn.pass;
  numbers : g.M.SharedMemory.numbers l.pass ≡ g.M.SharedMemory.numbers l.fn.pass;
  single : (t : ℕ) × IsSingle t (g.M.SharedMemory.numbers l.pass) × MayAct (g.M.SharedMemory.origin l.memory).first t (g.M.SharedMemory.seen l.pass);
}
