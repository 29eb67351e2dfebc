use Rattle.std.proofs.Common.{◌≡◌, ℕ, ◌≤◌, ◌*◌, length, slice_index}
use Rattle.run_merge.specs.inner.Filling.{IsStack, most_width}
use Rattle.run_merge.proofs.filling.stacked.Given as goal

abbrev pub invariant-loop-c : goal.invariant-loop-c
invariant-loop-c l = record {
  len : length l.widths.items ≡ length l.fn.widths.items;
  few : l.total ≤ most_width * l.c;
  rest : (k : ℕ) → l.c ≤ k → slice_index l.widths.items k ≡ slice_index l.fn.widths.items k;
  stack : IsStack l.fn.widths.items l.c l.widths.items l.total;
}
