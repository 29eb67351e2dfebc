-- What instructions compute of 32-bit numbers, in unbounded whole numbers ("Integer Computational Instructions").
use Rattle.std.specs.Prelude.{ℕ, ◌+◌, ◌-◌, ◌*◌, ◌/◌, ◌%◌, ◌^◌, nat_lt, if◌then◌else◌, Bool, ℤ, pos, int_lt}
use Rattle.std.specs.Int.{int_div_euclid}
use Rattle.llsc_base.specs.Words.{signed, residue, low32}

-- a signed number as one of 32 bits
abbrev pub word_of : ℤ → ℕ
word_of z = residue z (2 ^ 32)

-- a number moved by a signed distance, modulo 2 to the 32
abbrev pub moved : ℕ → ℤ → ℕ
moved x distance = low32 (x + word_of distance)

abbrev pub sum : ℕ → ℕ → ℕ
sum x y = low32 (x + y)

abbrev pub difference : ℕ → ℕ → ℕ
difference x y = low32 (x + (2 ^ 32 - y))

-- the first is less, both read as signed
abbrev pub is_less_signed : ℕ → ℕ → Bool
is_less_signed x y = int_lt (signed x) (signed y)

-- 1 for what is so, and 0 for what isn't
abbrev pub as_number : Bool → ℕ
as_number test = if test then 1 else 0

-- shifts, by the low five bits of a number: left; right with zeros above; right with the sign above, which divides by a power of
-- two and rounds down
abbrev pub shifted_left : ℕ → ℕ → ℕ
shifted_left x y = low32 (x * 2 ^ (y % 32))

abbrev pub shifted_right : ℕ → ℕ → ℕ
shifted_right x y = x / 2 ^ (y % 32)

abbrev pub shifted_signed : ℕ → ℕ → ℕ
shifted_signed x y = word_of (int_div_euclid (signed x) (pos (2 ^ (y % 32))))

-- a number without its bit 0
abbrev pub even : ℕ → ℕ
even x = x - x % 2

-- a number of fewer bits as one of 32, with its own sign above it
abbrev pub sign_extended : (width part : ℕ) → ℕ
sign_extended width part = if nat_lt part (2 ^ (width - 1)) then part else part + (2 ^ 32 - 2 ^ width)
