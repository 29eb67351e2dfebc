-- Shifts of 32-bit numbers, with the shifter's carry (DDI 0406C A2.2.1, A8.4.3), in unbounded whole numbers.
use Rattle.std.specs.Prelude.{ℕ, ◌+◌, ◌-◌, ◌*◌, ◌/◌, ◌%◌, ◌^◌, ◌==◌, nat_le, if◌then◌else◌, Bool, ℤ, pos}
use Rattle.std.specs.Int.{int_div_euclid}
use Rattle.llsc_base.specs.Words.{signed, residue}
use Rattle.a32_instr.specs.declared.instructions.ShiftKind.{ShiftKind}
use Rattle.a32_instr.specs.declared.instructions.ShiftKind.TheVariants.{Lsl, Lsr, Asr, Ror}
use Rattle.a32_instr.specs.declared.arithmetic.Shifted.{Shifted}

-- bit 31 of a 32-bit number
abbrev pub top_bit : ℕ → Bool
top_bit x = nat_le (2 ^ 31) x

-- logical shift left (LSL_C): the carry is the last bit that left at the top
unfoldable pub shifted_left : ℕ → ℕ → Shifted
shifted_left x amount = record {
  value = x * 2 ^ amount % 2 ^ 32;
  carry = x * 2 ^ amount / 2 ^ 32 % 2 == 1;
}

-- logical shift right (LSR_C): the carry is the last bit that left at the bottom
unfoldable pub shifted_right : ℕ → ℕ → Shifted
shifted_right x amount = record {
  value = x / 2 ^ amount;
  carry = x / 2 ^ (amount - 1) % 2 == 1;
}

-- the signed value of a 32-bit number divided by a power of two, rounded down
abbrev pub floor_by : ℕ → ℕ → ℤ
floor_by x amount = int_div_euclid (signed x) (pos (2 ^ amount))

-- arithmetic shift right (ASR_C): the carry is the last bit that left at the bottom
unfoldable pub shifted_signed : ℕ → ℕ → Shifted
shifted_signed x amount = record {
  value = residue (floor_by x amount) (2 ^ 32);
  carry = residue (floor_by x (amount - 1)) 2 == 1;
}

-- a 32-bit number rotated right, by an amount below 32
unfoldable pub turned : ℕ → ℕ → ℕ
turned x amount = x / 2 ^ amount + x % 2 ^ amount * 2 ^ (32 - amount)

-- a rotation by 32 turns a number all the way round
abbrev pub rotated_right : ℕ → ℕ → ℕ
rotated_right x amount = turned x (amount % 32)

-- rotation right (ROR_C): the carry is the bit that came in at the top
abbrev pub rotated : ℕ → ℕ → Shifted
rotated x amount = record {
  value = rotated_right x amount;
  carry = top_bit (rotated_right x amount);
}

-- rotation right by one bit through the carry (RRX_C)
unfoldable pub rotated_with_carry : ℕ → Bool → Shifted
rotated_with_carry x carry = record {
  value = x / 2 + (if carry then 2 ^ 31 else 0);
  carry = x % 2 == 1;
}

-- a shift by an amount that is not 0
abbrev pub moved_by : ShiftKind → ℕ → ℕ → Shifted
moved_by Lsl x amount = shifted_left x amount
moved_by Lsr x amount = shifted_right x amount
moved_by Asr x amount = shifted_signed x amount
moved_by Ror x amount = rotated x amount

-- a number that isn't shifted, and the carry as it was
abbrev pub unshifted : ℕ → Bool → Shifted
unshifted x carry = record { value = x; carry = carry }

-- a shift by any amount (Shift_C)
abbrev pub shifted : ShiftKind → ℕ → ℕ → Bool → Shifted
shifted kind x amount carry = if amount == 0 then unshifted x carry else moved_by kind x amount

-- what the number 0 in a word means: a shift by 32 at LSR and ASR, and RRX at ROR (DecodeImmShift)
abbrev pub shifted_by_0 : ShiftKind → ℕ → Bool → Shifted
shifted_by_0 Lsl x carry = unshifted x carry
shifted_by_0 Lsr x carry = shifted_right x 32
shifted_by_0 Asr x carry = shifted_signed x 32
shifted_by_0 Ror x carry = rotated_with_carry x carry

-- a shift by the number in a word
abbrev pub shifted_by_number : ShiftKind → ℕ → ℕ → Bool → Shifted
shifted_by_number kind x amount carry = if amount == 0 then shifted_by_0 kind x carry else moved_by kind x amount
