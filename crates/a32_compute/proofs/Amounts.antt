-- Shifts by each amount.
use Rattle.std.proofs.Common.{◌≡◌, ◌<◌, ◌≤◌, ◌*◌, ◌^◌, ◌-◌, ℕ, suc, ◌+◌, ◌/◌, ◌%◌, arith, refl, ◌∙◌, sym, ap, mul_assoc, pow_mono, lt_of_lt_of_le, pos, negsuc, if◌then◌else◌, true, false, ⊎_elim, le-leb}
use Rattle.std.proofs.lemmas.Nat.{pow-add, shl_whole, shl-shr}
use Rattle.std.proofs.Math.Nat.{mul-mod_left, div-eq_of_lt}
use Rattle.std.proofs.lemmas.Bool.{cases_lt, lt-leb}
use Rattle.a32_instr.specs.Shift.{top_bit, floor_by, shifted_right, shifted_signed}
use Rattle.a32_compute.proofs.Signed.{signed_low, signed_high}

-- a shift left by at most 32 fits 64 bits
pub left_wide : (x amount : ℕ) → x < 2 ^ 32 → amount ≤ 32 → x * 2 ^ amount % 2 ^ 64 ≡ x * 2 ^ amount
left_wide x amount small few = shl_whole x 32 amount 64 small (omega arith)

-- a shift left by more than 32 leaves nothing
left_far : (x amount : ℕ) → 32 < amount → (x * 2 ^ amount % 2 ^ 32 ≡ 0) × (x * 2 ^ amount / 2 ^ 32 % 2 ≡ 0)
left_far x amount far =
    let whole : (amount - 33) + 1 + 32 ≡ amount = omega arith in
    let split : x * 2 ^ amount ≡ x * 2 ^ ((amount - 33) + 1) * 2 ^ 32 =
    ap (λ (n : ℕ). x * 2 ^ n) (sym whole) ∙ ap (λ (n : ℕ). x * n) (pow-add 2 ((amount - 33) + 1) 32) ∙ sym (mul_assoc x (2 ^ ((amount - 33) + 1)) (2 ^ 32)) in
    let even : x * 2 ^ ((amount - 33) + 1) ≡ x * 2 ^ (amount - 33) * 2 =
    ap (λ (n : ℕ). x * n) (pow-add 2 (amount - 33) 1) ∙ sym (mul_assoc x (2 ^ (amount - 33)) 2) in
    let none : x * 2 ^ amount % 2 ^ 32 ≡ 0 = ap (λ (n : ℕ). n % 2 ^ 32) split ∙ mul-mod_left (x * 2 ^ ((amount - 33) + 1)) (2 ^ 32) in
    let last : x * 2 ^ amount / 2 ^ 32 % 2 ≡ 0 =
    ap (λ (n : ℕ). n / 2 ^ 32 % 2) split ∙ ap (λ (n : ℕ). n % 2) (shl-shr (x * 2 ^ ((amount - 33) + 1)) 32 ∙ even) ∙ mul-mod_left (x * 2 ^ (amount - 33)) 2 in
    (none, last)

pub left_none : (x amount : ℕ) → 32 < amount → x * 2 ^ amount % 2 ^ 32 ≡ 0
left_none x amount far = (left_far x amount far).0

pub left_last : (x amount : ℕ) → 32 < amount → x * 2 ^ amount / 2 ^ 32 % 2 ≡ 0
left_last x amount far = (left_far x amount far).1

-- nothing is left of a number of 32 bits
gone : (x k : ℕ) → x < 2 ^ 32 → 32 ≤ k → x / 2 ^ k ≡ 0
gone x k small far =
    div-eq_of_lt (lt_of_lt_of_le small (pow_mono far))

-- a shift right by more than 32 leaves nothing
pub right_none : (x amount : ℕ) → x < 2 ^ 32 → 32 < amount → shifted_right x amount ≡ record { value = 0; carry = false }
unfolding shifted_right
right_none x amount small far = rw (gone x amount small (omega arith), gone x (amount - 1) small (omega arith)) refl

floor_low : (x k : ℕ) → x < 2 ^ 31 → 32 ≤ k → floor_by x k ≡ pos 0
floor_low x k low far = rw (signed_low x low) (ap pos (gone x k (omega arith) far))

floor_high : (x k : ℕ) → x < 2 ^ 32 → 2 ^ 31 ≤ x → 32 ≤ k → floor_by x k ≡ negsuc 0
floor_high x k small high far = rw (signed_high x small high) (ap negsuc (gone (2 ^ 32 - suc x) k (omega arith) far))

-- a signed shift right by more than 32 leaves the sign
pub signed_far : (x amount : ℕ) → x < 2 ^ 32 → 32 < amount
    → shifted_signed x amount ≡ (if top_bit x then record { value = 4294967295; carry = true } else record { value = 0; carry = false })
unfolding shifted_signed
signed_far x amount small far = ⊎_elim low high (cases_lt x (2 ^ 31))
  where
    low : x < 2 ^ 31 → shifted_signed x amount ≡ (if top_bit x then record { value = 4294967295; carry = true } else record { value = 0; carry = false })
    low below = rw (floor_low x amount below (omega arith), floor_low x (amount - 1) below (omega arith), lt-leb (2 ^ 31) x below) refl

    high : 2 ^ 31 ≤ x → shifted_signed x amount ≡ (if top_bit x then record { value = 4294967295; carry = true } else record { value = 0; carry = false })
    high above = rw (floor_high x amount small above (omega arith), floor_high x (amount - 1) small above (omega arith), le-leb (2 ^ 31) x above) refl
