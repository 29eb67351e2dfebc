use Rattle.std.proofs.Common.{◌≡◌, ℕ, ◌≤◌, ◌<◌, Some, length, slice_get, slice_index}
use Rattle.run_merge.specs.inner.Filling.{AreWide, most_width}
use Rattle.run_merge.specs.declared.logs.Log.{Log}
use Rattle.run_merge.proofs.filling.widths_of.Given as goal

abbrev pub invariant-loop-t : goal.invariant-loop-t
invariant-loop-t l = record {
  len : length l.widths.items ≡ l.size.classes;
  bound : (c : ℕ) → slice_index l.widths.items c ≤ most_width;
  wide : (u : ℕ) (log : Log) → u < l.t → slice_get l.logs u ≡ Some log → AreWide l.size log.entries.items (length log.entries.items) l.widths.items;
}
