use Rattle.std.proofs.Common.{◌≡◌, ℕ, length, nat_lt}
use Rattle.shared_memory.specs.Passes.{marked}
use Rattle.shared_memory.proofs.numbers.first_marks.Given as goal

abbrev pub invariant-loop-t : goal.invariant-loop-t
invariant-loop-t l = record {
  long : length l.has ≡ 16;
  marks : (k : ℕ) → marked l.has k ≡ nat_lt k l.t;
}
