-- 32-bit numbers read as signed.
use Rattle.std.proofs.Common.{◌≡◌, ◌<◌, ◌≤◌, ◌^◌, ◌-◌, ℕ, suc, ◌+◌, ℤ, pos, negsuc, ◌+ℤ◌, arith, refl, ◌∙◌, subst, sym, w64, ⊎_elim, lt-ltb, le-ltb}
use Rattle.std.proofs.lemmas.Bool.{cases_lt}
use Rattle.std.proofs.lemmas.Int.{ints, to_z-of_z, fits_signed_from_abs}
use Rattle.std.specs.Int.{cast_signed, cast_unsigned}
use Rattle.std.specs.Int.RustNames.{FitsSigned, unsigned_abs}
use Rattle.llsc_base.specs.Words.{signed}

pub signed_low : (x : ℕ) → x < 2 ^ 31 → signed x ≡ pos x
signed_low x low = rw (lt-ltb x (2 ^ 31) low) refl

pub signed_high : (x : ℕ) → x < 2 ^ 32 → 2 ^ 31 ≤ x → signed x ≡ negsuc (2 ^ 32 - suc x)
signed_high x small high = rw (le-ltb x (2 ^ 31) high, lt-ltb x (2 ^ 32) small) refl

-- one is at most 2 to the 31, above 0 or below
pub signed_most : (x : ℕ) → x < 2 ^ 32 → unsigned_abs (signed x) ≤ 2 ^ 31
signed_most x small = ⊎_elim low high (cases_lt x (2 ^ 31))
  where
    low : x < 2 ^ 31 → unsigned_abs (signed x) ≤ 2 ^ 31
    low below = rw (signed_low x below) (omega arith)

    high : 2 ^ 31 ≤ x → unsigned_abs (signed x) ≤ 2 ^ 31
    high above = rw (signed_high x small above) (omega arith)

-- what is less than 2 to the 63 from 0 stands in 64 bits as it is
pub small_kept : (z s : ℤ) → z ≡ s → unsigned_abs s < 2 ^ 63 → cast_signed w64 (cast_unsigned w64 z) ≡ s
small_kept z s same small = to_z-of_z w64 z (subst (λ (n : ℤ). FitsSigned w64 n) (sym same) (fits_signed_from_abs w64 s small)) ∙ same

pub signed_kept : (z : ℤ) (x : ℕ) → z ≡ signed x → x < 2 ^ 32 → cast_signed w64 (cast_unsigned w64 z) ≡ signed x
signed_kept z x same small = let most = signed_most x small in small_kept z (signed x) same (omega (arith, most))

-- a sum is at most as far from 0 as its parts together
pub sum_most : (a b : ℤ) → unsigned_abs (a +ℤ b) ≤ unsigned_abs a + unsigned_abs b
sum_most a b = omega (arith, ints)
