-- Wide moves, the count of leading zeros, reversed bytes and extended parts (DDI 0406C A8.8.102, A8.8.106, A8.8.33,
-- A8.8.145, A8.8.233, A8.8.235, A8.8.274, A8.8.276).
use Rattle.std.specs.Prelude.{ℕ, ◌+◌, ◌-◌, ◌*◌, ◌/◌, ◌%◌, ◌^◌, nat_lt, ◌||◌, if◌then◌else◌, Bool}
use Rattle.std.specs.Int.{w32, leading_zeros}
use Rattle.a32_instr.specs.State.{State, Effect, register, writes}
use Rattle.a32_instr.specs.Shift.{rotated_right}

abbrev pub moves_wide : ℕ → ℕ → State → Effect
moves_wide rd imm state = writes state rd imm

-- the upper half of a number replaced
abbrev pub with_top : ℕ → ℕ → ℕ
with_top x imm = imm * 2 ^ 16 + x % 2 ^ 16

abbrev pub moves_top : ℕ → ℕ → State → Effect
moves_top rd imm state = writes state rd (with_top (register state rd) imm)

abbrev pub counts_zeros : ℕ → ℕ → State → Effect
counts_zeros rd rm state = writes state rd (leading_zeros w32 (register state rm))

-- byte i of a number, counted from the lowest
abbrev pub byte_of : ℕ → ℕ → ℕ
byte_of x i = x / 2 ^ (8 * i) % 2 ^ 8

-- the four bytes of a number the other way round
abbrev pub reversed : ℕ → ℕ
reversed x = byte_of x 0 * 2 ^ 24 + byte_of x 1 * 2 ^ 16 + byte_of x 2 * 2 ^ 8 + byte_of x 3

abbrev pub reverses : ℕ → ℕ → State → Effect
reverses rd rm state = writes state rd (reversed (register state rm))

-- a number of fewer bits as one of 32: with zeros, or with its own sign
abbrev pub widened : Bool → ℕ → ℕ → ℕ
widened unsigned width part =
    if unsigned || nat_lt part (2 ^ (width - 1)) then part else part + (2 ^ 32 - 2 ^ width)

-- the low bits of a number, widened
abbrev pub extended : Bool → ℕ → ℕ → ℕ
extended unsigned width x = widened unsigned width (x % 2 ^ width)

-- the bits of a byte, or of a half word
abbrev pub width_of : Bool → ℕ
width_of half = if half then 16 else 8

abbrev pub extends : Bool → Bool → ℕ → ℕ → ℕ → State → Effect
extends unsigned half rd rm turn state =
    writes state rd (extended unsigned (width_of half) (rotated_right (register state rm) (8 * turn)))
