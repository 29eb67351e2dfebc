-- The signed sum fits 64 bits.
use Rattle.std.proofs.Common.{◌≡◌, ◌<◌, ◌≤◌, ◌^◌, ◌||◌, Bool, true, false, ℕ, ℤ, pos, negsuc, ◌+ℤ◌, w64, arith, refl, subst}
use Rattle.std.proofs.lemmas.Int.{fits_signed_from_abs}
use Rattle.std.specs.Int.{cast_signed, cast_unsigned}
use Rattle.std.specs.Int.RustNames.{unsigned_abs}
use lib.Signed.{lt_z}
use Rattle.llsc_base.specs.Words.{signed}
use Rattle.a32_instr.specs.Sum.{is_out_of_range}
use Rattle.a32_compute.proofs.Signed.{signed_most, signed_kept, small_kept, sum_most}
use Rattle.a32_compute.proofs.arithmetic.overflows.Goals as goal

two_most : (x y : ℕ) → x < 2 ^ 32 → y < 2 ^ 32 → unsigned_abs (signed x +ℤ signed y) ≤ 2 ^ 32
two_most x y small_x small_y =
    let sum = sum_most (signed x) (signed y) in
    let most_x = signed_most x small_x in
    let most_y = signed_most y small_y in
    omega (arith, sum, most_x, most_y)

all_most : (x y carry : ℕ) → x < 2 ^ 32 → y < 2 ^ 32 → carry < 2 → unsigned_abs (signed x +ℤ signed y +ℤ pos carry) < 2 ^ 63
all_most x y carry small_x small_y small =
    let sum = sum_most (signed x +ℤ signed y) (pos carry) in
    let two = two_most x y small_x small_y in
    omega (arith, sum, two, small)

two_kept : (a b : ℤ) (x y : ℕ) → a ≡ signed x → b ≡ signed y → x < 2 ^ 32 → y < 2 ^ 32
    → cast_signed w64 (cast_unsigned w64 (cast_signed w64 (cast_unsigned w64 a) +ℤ cast_signed w64 (cast_unsigned w64 b))) ≡ signed x +ℤ signed y
two_kept a b x y same_a same_b small_x small_y =
    let two = two_most x y small_x small_y in
    rw (signed_kept a x same_a small_x, signed_kept b y same_b small_y) (small_kept (signed x +ℤ signed y) (signed x +ℤ signed y) refl (omega (arith, two)))

all_kept : (s k : ℤ) (x y carry : ℕ) → s ≡ signed x +ℤ signed y → k ≡ pos carry → x < 2 ^ 32 → y < 2 ^ 32 → carry < 2
    → cast_signed w64 (cast_unsigned w64 (s +ℤ cast_signed w64 (cast_unsigned w64 k))) ≡ signed x +ℤ signed y +ℤ pos carry
all_kept s k x y carry same_s same_k small_x small_y small =
    rw (same_s, small_kept k (pos carry) same_k (omega (arith, small)))
    (small_kept (signed x +ℤ signed y +ℤ pos carry) (signed x +ℤ signed y +ℤ pos carry) refl (all_most x y carry small_x small_y small))

-- each side of the range by itself
or_left : (p q : Bool) → p ≡ true → p ≡ (p || q)
or_left true q is = refl
or_left false q is = cc

or_right : (p q : Bool) → p ≡ false → q ≡ (p || q)
or_right true q is = cc
or_right false q is = refl

out_below : (t s : ℤ) → t ≡ s → lt_z t (negsuc 2147483647) ≡ true → lt_z t (negsuc 2147483647) ≡ is_out_of_range s
out_below t s same below =
    subst (λ (z : ℤ). lt_z t (negsuc 2147483647) ≡ is_out_of_range z) same (or_left (lt_z t (negsuc 2147483647)) (lt_z (pos 2147483647) t) below)

out_above : (t s : ℤ) → t ≡ s → lt_z t (negsuc 2147483647) ≡ false → lt_z (pos 2147483647) t ≡ is_out_of_range s
out_above t s same not_below =
    subst (λ (z : ℤ). lt_z (pos 2147483647) t ≡ is_out_of_range z) same (or_right (lt_z t (negsuc 2147483647)) (lt_z (pos 2147483647) t) not_below)

pub overflow_add-sum : goal.overflow_add-sum
overflow_add-sum c =
    let x = c.args.x in
    let y = c.args.y in
    let two = two_most x y c.ranges.x.fits c.ranges.y.fits in
    rw (signed_kept c.as_signed.result x c.as_signed.ensures c.ranges.x.fits, signed_kept c.as_signed-2.result y c.as_signed-2.ensures c.ranges.y.fits)
    (fits_signed_from_abs w64 (signed x +ℤ signed y) (omega (arith, two)))

pub overflow_add-sum-2 : goal.overflow_add-sum-2
overflow_add-sum-2 c =
    let x = c.args.x in
    let y = c.args.y in
    let carry = c.args.carry in
    rw (two_kept c.as_signed.result c.as_signed-2.result x y c.as_signed.ensures c.as_signed-2.ensures c.ranges.x.fits c.ranges.y.fits, small_kept c.from.result (pos carry) c.from.ensures (omega (arith, c.requires)))
    (fits_signed_from_abs w64 (signed x +ℤ signed y +ℤ pos carry) (all_most x y carry c.ranges.x.fits c.ranges.y.fits c.requires))

pub returns-then-sum : goal.returns-then-sum
returns-then-sum c =
    let x = c.args.x in
    let y = c.args.y in
    let two = two_kept c.as_signed.result c.as_signed-2.result x y c.as_signed.ensures c.as_signed-2.ensures c.ranges.x.fits c.ranges.y.fits in
    out_below _ _ (all_kept _ c.from.result x y c.args.carry two c.from.ensures c.ranges.x.fits c.ranges.y.fits c.requires) c.if-sum.true

pub returns-else-sum : goal.returns-else-sum
returns-else-sum c =
    let x = c.args.x in
    let y = c.args.y in
    let two = two_kept c.as_signed.result c.as_signed-2.result x y c.as_signed.ensures c.as_signed-2.ensures c.ranges.x.fits c.ranges.y.fits in
    out_above _ _ (all_kept _ c.from.result x y c.args.carry two c.from.ensures c.ranges.x.fits c.ranges.y.fits c.requires) c.if-sum.false
