use Rattle.memory_bench.specs.inner.Alone.{IsAlone}
use Rattle.memory_bench.proofs.main.Given as goal

abbrev pub invariant-loop-word : goal.invariant-loop-word
invariant-loop-word g l = record {
  can : (goal.iterator-loop-word g).can_next l.word-iterator;
  finite : (goal.iterator-loop-word g).is_finite l.word-iterator;
  alone : IsAlone l.memory l.pass;
}
