-- The passes of the highest numbers are split off; the pass has those below.
use Rattle.std.proofs.Common.{◌≡◌, ◌+◌, ◌<◌, ℕ, nat_lt, vec_len}
use Rattle.shared_memory.specs.Seen.{IsOneOf, joint}
use Rattle.memory_trials.specs.inner.Tried.{MayAllLog, numbers_of}
use Rattle.memory_trials.proofs.tests.many_threads.others.Given as goal

abbrev pub invariant-loop-count : goal.invariant-loop-count
invariant-loop-count g l = record {
  memory : g.M.SharedMemory.home l.pass ≡ g.M.SharedMemory.home l.fn.pass;
  seen : g.M.SharedMemory.seen l.pass ≡ g.M.SharedMemory.seen l.fn.pass;
  left : (t : ℕ) → g.M.SharedMemory.numbers l.pass t ≡ nat_lt (t + l.count) (l.threads + 1);
  all : (t : ℕ) → t < l.threads → IsOneOf t (joint (g.M.SharedMemory.numbers l.pass) (numbers_of g.M.SharedMemory.numbers l.logged.items));
  may : MayAllLog g.M.SharedMemory.home g.M.SharedMemory.numbers (g.M.SharedMemory.id l.memory) (g.M.SharedMemory.origin l.memory) l.logged.items;
  len : vec_len l.logged + 1 ≡ l.count;
}
