use Rattle.std.proofs.Common.{◌≡◌, ◌≤◌, ◌-◌, length, drop}
use Rattle.std.specs.Cmp.Lexicographic.{slice_cmp}
use Rattle.std.specs.Ordering.{nat_cmp}
use Rattle.a32_forms.specs.Cuts.{before_code}
use Rattle.a32_asm.proofs.places.shared_front.Given as goal

abbrev pub invariant-loop-count : goal.invariant-loop-count
invariant-loop-count l = record {
  in_first : l.count ≤ length l.first;
  in_second : l.count ≤ length l.second;
  same : slice_cmp nat_cmp (before_code 58 (drop l.count l.first)) (before_code 58 (drop l.count l.second)) ≡ slice_cmp nat_cmp (before_code 58 l.first) (before_code 58 l.second);
}

abbrev pub decreases-loop-count : goal.decreases-loop-count
decreases-loop-count l = length l.first - l.count
