use Rattle.std.proofs.Common.{◌≡◌, ℕ, ◌≤◌, ◌*◌, length, slice_index, sum_by, take}
use Rattle.std.specs.List.{count_by}
use Rattle.run_merge.specs.inner.Tables.{is_read_at}
use Rattle.run_merge.proofs.filling.counts_of.Given as goal

abbrev pub invariant-loop-t : goal.invariant-loop-t
invariant-loop-t l = record {
  len : length l.left.items ≡ length l.fn.left.items;
  left : (k : ℕ) → slice_index l.left.items k ≡ sum_by (λ log. count_by (is_read_at l.size l.base k) log.entries.items) (take l.t l.logs);
  few : (k : ℕ) → slice_index l.left.items k ≤ l.t * 1000000;
}
