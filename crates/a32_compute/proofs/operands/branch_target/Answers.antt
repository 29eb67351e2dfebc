-- The target's whole number fits 64 bits; below 0 it is turned by twice 2 to the 32, which is a multiple of 4.
use Rattle.std.proofs.Common.{◌≡◌, ◌<◌, ◌≤◌, ◌+◌, ◌-◌, ◌*◌, ◌%◌, ◌^◌, ℕ, suc, ℤ, pos, negsuc, ◌+ℤ◌, ◌*ℤ◌, w32, w64, arith, refl, ◌∙◌, ap}
use Rattle.std.proofs.lemmas.Int.{ints, to_z-of_z, unsigned_abs-mul, int_rem_euclid_is}
use Rattle.std.specs.Int.{cast_signed, cast_unsigned, int_rem_euclid}
use Rattle.std.specs.Int.RustNames.{FitsSigned, unsigned_abs}
use Rattle.a32_instr.specs.Branch.{target_of}
use Rattle.a32_compute.proofs.Signed.{small_kept, sum_most}
use Rattle.a32_compute.proofs.operands.branch_target.Goals as goal

words_most : (words : ℤ) → FitsSigned w32 words → unsigned_abs words ≤ 2 ^ 31
words_most (pos n) fits = omega (arith, fits.sfits)
words_most (negsuc n) fits = omega (arith, fits.sfits)

bytes_most : (words : ℤ) → FitsSigned w32 words → unsigned_abs (pos 4 *ℤ words) ≤ 2 ^ 33
bytes_most words fits =
    let most = words_most words fits in
    let product = unsigned_abs-mul (pos 4) words in
    omega (arith, most, product)

kept : (pc : ℕ) (words f g : ℤ) → pc < 2 ^ 32 → FitsSigned w32 words → f ≡ pos pc → g ≡ cast_signed w32 (cast_unsigned w32 words)
    → cast_signed w64 (cast_unsigned w64 (cast_signed w64 (cast_unsigned w64 (cast_signed w64 (cast_unsigned w64 f) +ℤ pos 8)) +ℤ cast_signed w64 (cast_unsigned w64 (pos 4 *ℤ cast_signed w64 (cast_unsigned w64 g)))))
    ≡ pos (pc + 8) +ℤ (pos 4 *ℤ words)
kept pc words f g small fits same_f same_g =
    let words_few = words_most words fits in
    let bytes_few = bytes_most words fits in
    let sum = sum_most (pos (pc + 8)) (pos 4 *ℤ words) in
    rw (
      small_kept f (pos pc) same_f (omega (arith, small)),
      small_kept g words (same_g ∙ to_z-of_z w32 words fits) (omega (arith, words_few)),
      small_kept (pos (pc + 8)) (pos (pc + 8)) refl (omega (arith, small)),
      small_kept (pos 4 *ℤ words) (pos 4 *ℤ words) refl (omega (arith, bytes_few)),
    )
    (small_kept (pos (pc + 8) +ℤ (pos 4 *ℤ words)) (pos (pc + 8) +ℤ (pos 4 *ℤ words)) refl (omega (arith, sum, bytes_few, small)))

aligned : (pc : ℕ) (words : ℤ) → FitsSigned w32 words → pc % 4 ≡ 0 → target_of pc words % 4 ≡ 0
unfolding target_of
aligned pc (pos n) fits whole =
    let turned = int_rem_euclid_is (pos (pc + 8) +ℤ (pos 4 *ℤ pos n)) (pos (2 ^ 32)) (2 ^ 32) 0 (pc + 8 + 4 * n) (omega arith) refl (omega (arith, ints)) in
    ap (λ (z : ℤ). unsigned_abs z % 4) turned ∙ omega (arith, whole)
aligned pc (negsuc n) fits whole =
    let turned = int_rem_euclid_is (pos (pc + 8) +ℤ (pos 4 *ℤ negsuc n)) (pos (2 ^ 32)) (2 ^ 32) 2 (pc + 8 + 4 * (2 ^ 31 - suc n)) (omega arith) refl (omega (arith, ints, fits.sfits)) in
    ap (λ (z : ℤ). unsigned_abs z % 4) turned ∙ omega (arith, whole)

target : (pc : ℕ) (words f g r : ℤ) → pc < 2 ^ 32 → FitsSigned w32 words → f ≡ pos pc → g ≡ cast_signed w32 (cast_unsigned w32 words)
    → r ≡ int_rem_euclid (cast_signed w64 (cast_unsigned w64 (cast_signed w64 (cast_unsigned w64 (cast_signed w64 (cast_unsigned w64 f) +ℤ pos 8)) +ℤ cast_signed w64 (cast_unsigned w64 (pos 4 *ℤ cast_signed w64 (cast_unsigned w64 g)))))) (pos (2 ^ 32))
    → unsigned_abs r < 2 ^ 32 → unsigned_abs (cast_signed w64 (cast_unsigned w64 r)) ≡ target_of pc words
unfolding target_of
target pc words f g r small fits same_f same_g value below =
    ap unsigned_abs (small_kept r r refl (omega (arith, below)) ∙ value ∙ ap (λ (z : ℤ). int_rem_euclid z (pos (2 ^ 32))) (kept pc words f g small fits same_f same_g))

pub returns-clause-target : goal.returns-clause-target
returns-clause-target c =
    target c.args.pc c.args.words c.from.result c.from-2.result c.rem_euclid.result c.ranges.pc.fits c.ranges.words c.from.ensures c.from-2.ensures c.rem_euclid.ensures.value c.rem_euclid.ensures.upper_bound

pub returns-clause-aligned : goal.returns-clause-aligned
returns-clause-aligned c whole =
    ap (λ (n : ℕ). n % 4) (target c.args.pc c.args.words c.from.result c.from-2.result c.rem_euclid.result c.ranges.pc.fits c.ranges.words c.from.ensures c.from-2.ensures c.rem_euclid.ensures.value c.rem_euclid.ensures.upper_bound)
    ∙ aligned c.args.pc c.args.words c.ranges.words whole
