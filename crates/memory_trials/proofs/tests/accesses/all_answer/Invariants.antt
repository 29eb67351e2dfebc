use Rattle.memory_trials.specs.inner.Tried.{IsOf, IsPassOf}
use Rattle.memory_trials.proofs.tests.accesses.all_answer.Given as goal

abbrev pub invariant-loop-case : goal.invariant-loop-case
invariant-loop-case g l = record {
  two : IsOf 2 (g.M.SharedMemory.origin l.memory);
  one : IsPassOf g.M.SharedMemory.home g.M.SharedMemory.numbers (g.M.SharedMemory.id l.memory) 0 l.one;
  other : IsPassOf g.M.SharedMemory.home g.M.SharedMemory.numbers (g.M.SharedMemory.id l.memory) 1 l.other;
}
