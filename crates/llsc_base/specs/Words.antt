-- Numbers of 32 bits.
use Rattle.std.specs.Prelude.{ℕ, ◌%◌, ◌^◌, nat_lt, if◌then◌else◌, ℤ, pos, ◌-ℤ◌, unsigned_abs}
use Rattle.std.specs.Int.{int_rem_euclid}

-- a number modulo 2 to the 32
abbrev pub low32 : ℕ → ℕ
low32 x = x % 2 ^ 32

-- a 32-bit number read as signed
abbrev pub signed : ℕ → ℤ
signed x = if nat_lt x (2 ^ 31) then pos x else pos x -ℤ pos (2 ^ 32)

-- a whole number modulo a number above 0
abbrev pub residue : ℤ → ℕ → ℕ
residue z modulus = unsigned_abs (int_rem_euclid z (pos modulus))
