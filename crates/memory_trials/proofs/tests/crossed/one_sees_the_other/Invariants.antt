use Rattle.memory_trials.specs.inner.Tried.{IsOf, IsPassOf}
use Rattle.memory_trials.proofs.tests.crossed.one_sees_the_other.Given as goal

abbrev pub invariant-loop-k : goal.invariant-loop-k
invariant-loop-k g l = record {
  two : IsOf 2 (g.M.SharedMemory.origin l.memory);
  one : IsPassOf g.M.SharedMemory.home g.M.SharedMemory.numbers (g.M.SharedMemory.id l.memory) 0 l.one;
  other : IsPassOf g.M.SharedMemory.home g.M.SharedMemory.numbers (g.M.SharedMemory.id l.memory) 1 l.other;
}
