use Rattle.std.proofs.Common.{◌≡◌, ◌<◌, ◌≤◌, ℕ, length}
use Rattle.shared_memory.specs.Passes.{marked}
use Rattle.shared_memory.specs.Seen.{joint}
use Rattle.shared_memory.proofs.numbers.merge_marks.Given as goal

abbrev pub invariant-loop-t : goal.invariant-loop-t
invariant-loop-t l = record {
  long : length l.has ≡ 16;
  merged : (u : ℕ) → u < l.t → marked l.has u ≡ joint (marked l.one) (marked l.other) u;
  rest : (u : ℕ) → l.t ≤ u → marked l.has u ≡ marked l.one u;
}
