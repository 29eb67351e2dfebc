use Rattle.std.proofs.Common.{◌≡◌, length}
use Rattle.std.specs.Cmp.Lexicographic.{slice_cmp}
use Rattle.std.specs.Ordering.{nat_cmp}
use Rattle.a32_forms.specs.Cuts.{before_code}
use Rattle.a32_asm.proofs.places.compare_names.Given as goal

abbrev pub invariant-loop-byte : goal.invariant-loop-byte
invariant-loop-byte l = slice_cmp nat_cmp (before_code 58 l.left) (before_code 58 l.right) ≡ slice_cmp nat_cmp (before_code 58 l.first) (before_code 58 l.second)

abbrev pub decreases-loop-byte : goal.decreases-loop-byte
decreases-loop-byte l = length l.left
