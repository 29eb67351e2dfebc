use Rattle.std.proofs.Common.{◌≡◌, ℕ, ◌-◌, ◌*◌, ◌<◌, ◌/◌, ◌%◌, ◌^◌, bit_and, arith, ◌∙◌}
use Rattle.std.proofs.Math.Nat.{mod-eq_of_lt}
use Rattle.std.proofs.Math.Pow.{pow-lt}
use Rattle.std.proofs.lemmas.Nat.{and_mask}
use Rattle.llsc_base.proofs.fields.bits.Goals as goal

-- a number of bits below 32 is kept by the mask that is one shifted left by it, less one
mask : (number width : ℕ) → width < 32 → bit_and number (1 * 2 ^ width % 2 ^ 32 - 1) ≡ number % 2 ^ width
mask number width h =
    let below : 1 * 2 ^ width < 2 ^ 32 = omega (arith, pow-lt h) in
    let kept : 1 * 2 ^ width % 2 ^ 32 ≡ 2 ^ width = mod-eq_of_lt below ∙ omega arith in
    rw kept (and_mask number width)

-- the bits are the shifted word under that mask
pub returns-clause-value : goal.returns-clause-value
returns-clause-value c = mask (c.args.word / 2 ^ c.args.low) c.args.width c.requires.width
