-- Sums of 32-bit numbers (DDI 0406C A2.2.1, AddWithCarry), in unbounded whole numbers.
use Rattle.std.specs.Prelude.{ℕ, ◌+◌, ◌-◌, ◌^◌, ◌%◌, nat_le, ◌||◌, Bool, ℤ, pos, negsuc, ◌+ℤ◌, int_lt}
use Rattle.a32_instr.specs.declared.arithmetic.Sum.{Sum}
use Rattle.llsc_base.specs.Words.{signed}

-- a signed number is below minus 2 to the 31, or above 2 to the 31 less 1
abbrev pub is_out_of_range : ℤ → Bool
is_out_of_range z = int_lt z (negsuc 2147483647) || int_lt (pos 2147483647) z

-- every bit of a 32-bit number turned round
abbrev pub complement : ℕ → ℕ
complement x = 2 ^ 32 - 1 - x

-- The sum of two numbers and a carry, which is 0 or 1: modulo 2 to the 32, with a carry where it is at least that,
-- and an overflow where the signed sum is out of range.
unfoldable pub sum_of : ℕ → ℕ → ℕ → Sum
sum_of x y carry = record {
  value = (x + y + carry) % 2 ^ 32;
  carry = nat_le (2 ^ 32) (x + y + carry);
  overflow = is_out_of_range (signed x +ℤ signed y +ℤ pos carry);
}
