-- Rotations as sums of a quotient and a remainder.
use Rattle.std.proofs.Common.{◌≡◌, ◌<◌, ◌*◌, ◌^◌, ◌-◌, ℕ, suc, ◌+◌, ◌/◌, ◌%◌, zero, bit_or, arith, refl, ◌∙◌, subst, ap, add_comm, add-zero}
use Rattle.std.specs.Int.Bits.{or_shifted_r, or_self}
use Rattle.std.proofs.lemmas.Nat.{mod-pow-add, shl-shr, pow-add, pow_pos, or_comm}
use Rattle.std.proofs.Math.Nat.{mul-mod_left, div-lt_iff_lt-mul}
use Rattle.std.specs.Int.{w32, rotate_left, rotate_right}
use Rattle.a32_instr.specs.Shift.{turned, rotated_right}

-- the bits that leave at the bottom come in at the top
joined : (x k j : ℕ) → x < 2 ^ (k + j) → bit_or (x / 2 ^ k) (x * 2 ^ j % 2 ^ (k + j)) ≡ x / 2 ^ k + x % 2 ^ k * 2 ^ j
joined x k j small =
    let low : x * 2 ^ j % 2 ^ (k + j) ≡ x % 2 ^ k * 2 ^ j = rw (mod-pow-add (x * 2 ^ j) k j, shl-shr x j, mul-mod_left x (2 ^ j), add-zero) refl in
    let below : x / 2 ^ k < 2 ^ j = (div-lt_iff_lt-mul (pow_pos k)).1 (subst (λ (n : ℕ). x < n) (ap (λ (n : ℕ). 2 ^ n) (add_comm k j) ∙ pow-add 2 j k) small) in
    rw low (or_shifted_r (x % 2 ^ k) j (x / 2 ^ k) below ∙ add_comm (x % 2 ^ k * 2 ^ j) (x / 2 ^ k))

-- a rotation by an amount below 32
below_32 : (x k : ℕ) → x < 2 ^ 32 → k < 32 → bit_or (x / 2 ^ k) (x * 2 ^ ((32 - k) % 32) % 2 ^ 32) ≡ turned x k
unfolding turned
below_32 x zero small less =
    let whole : x / 1 ≡ x = omega arith in
    let kept : x * 1 % 4294967296 ≡ x = omega arith in
    let none : x % 1 ≡ 0 = omega arith in
    rw (whole, kept, none) (or_self x ∙ omega arith)
below_32 x (suc k) small less =
    let rest : (32 - suc k) % 32 ≡ 32 - suc k = omega arith in
    let whole : suc k + (32 - suc k) ≡ 32 = omega arith in
    let fits : x < 2 ^ (suc k + (32 - suc k)) = rw whole small in
    rw rest (rw whole at (joined x (suc k) (32 - suc k) fits))

-- std's rotation to the right is the defined one
pub rotate_right_is : (x k : ℕ) → x < 2 ^ 32 → rotate_right w32 x k ≡ rotated_right x k
rotate_right_is x k small = below_32 x (k % 32) small (omega arith)

-- a rotation to the left by a turn is one to the right by the rest of 32 bits
pub rotate_left_is : (x turn : ℕ) → x < 2 ^ 32 → turn < 16 → rotate_left w32 x (2 * turn) ≡ rotated_right x (32 - 2 * turn)
rotate_left_is x turn small less =
    let left : 2 * turn % 32 ≡ (32 - (32 - 2 * turn) % 32) % 32 = omega arith in
    let right : (32 - 2 * turn % 32) % 32 ≡ (32 - 2 * turn) % 32 = omega arith in
    rw (right, left) (or_comm (x * 2 ^ ((32 - (32 - 2 * turn) % 32) % 32) % 2 ^ 32) (x / 2 ^ ((32 - 2 * turn) % 32)) ∙ rotate_right_is x (32 - 2 * turn) small)
