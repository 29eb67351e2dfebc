-- The product of two signed numbers of 32 bits fits 64.
use Rattle.std.proofs.Common.{ℕ, ◌<◌, ◌^◌, ◌*ℤ◌, w64, arith}
use Rattle.std.proofs.lemmas.Int.{to_z-of_z, fits_signed_mul}
use Rattle.std.specs.Int.RustNames.{FitsSigned}
use Rattle.llsc_base.specs.Words.{signed}
use Rattle.a32_compute.proofs.Signed.{signed_most, signed_kept}
use Rattle.a32_compute.proofs.products.signed_product.Goals as goal

product_fits : (x y : ℕ) → x < 2 ^ 32 → y < 2 ^ 32 → FitsSigned w64 (signed x *ℤ signed y)
product_fits x y small_x small_y = fits_signed_mul w64 (signed x) (signed y) (2 ^ 31) (2 ^ 31) (signed_most x small_x) (signed_most y small_y) (omega arith)

pub overflow_mul-result : goal.overflow_mul-result
overflow_mul-result c =
    let x = c.args.x in
    let y = c.args.y in
    rw (signed_kept c.as_signed.result x c.as_signed.ensures c.ranges.x.fits, signed_kept c.as_signed-2.result y c.as_signed-2.ensures c.ranges.y.fits)
    (product_fits x y c.ranges.x.fits c.ranges.y.fits)

pub returns : goal.returns
returns c =
    let x = c.args.x in
    let y = c.args.y in
    rw (signed_kept c.as_signed.result x c.as_signed.ensures c.ranges.x.fits, signed_kept c.as_signed-2.result y c.as_signed-2.ensures c.ranges.y.fits)
    (to_z-of_z w64 (signed x *ℤ signed y) (product_fits x y c.ranges.x.fits c.ranges.y.fits))
