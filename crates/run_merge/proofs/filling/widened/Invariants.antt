use Rattle.std.proofs.Common.{◌≡◌, ℕ, ◌≤◌, length, slice_index}
use Rattle.run_merge.specs.inner.Filling.{AreWide, most_width}
use Rattle.run_merge.proofs.filling.widened.Given as goal

abbrev pub invariant-loop-i : goal.invariant-loop-i
invariant-loop-i l = record {
  len : length l.widths.items ≡ l.size.classes;
  bound : (c : ℕ) → slice_index l.widths.items c ≤ most_width;
  no_less : (c : ℕ) → slice_index l.fn.widths.items c ≤ slice_index l.widths.items c;
  wide : AreWide l.size l.entries l.i l.widths.items;
}
