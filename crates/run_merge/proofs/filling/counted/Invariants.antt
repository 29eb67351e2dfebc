use Rattle.std.proofs.Common.{◌≡◌, ℕ, ◌+◌, length, slice_index, take}
use Rattle.std.specs.List.{count_by}
use Rattle.run_merge.specs.inner.Tables.{is_read_at}
use Rattle.run_merge.proofs.filling.counted.Given as goal

abbrev pub invariant-loop-i : goal.invariant-loop-i
invariant-loop-i l = record {
  len : length l.left.items ≡ length l.fn.left.items;
  left : (k : ℕ) → slice_index l.left.items k ≡ slice_index l.fn.left.items k + count_by (is_read_at l.size l.base k) (take l.i l.entries);
}
