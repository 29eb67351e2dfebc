-- The immediates of instructions (The RISC-V Instruction Set Manual, Volume I, "RV32I Base Integer Instruction Set",
-- "Immediate Encoding Variants").
use Rattle.std.specs.Prelude.{ℕ, ◌+◌, ◌-◌, ◌*◌, ◌^◌, nat_lt, if◌then◌else◌, ℤ, pos, ◌-ℤ◌}

-- a number of so many bits, the highest of which is its sign
unfoldable pub signed_field : (width field : ℕ) → ℤ
signed_field width field = if nat_lt field (2 ^ (width - 1)) then pos field else pos field -ℤ pos (2 ^ width)

-- the high twenty bits of a word
abbrev pub upper : ℕ → ℕ
upper field = field * 2 ^ 12

-- A branch's distance in bytes by its pieces: bit 12, bit 11, bits 10:5 and bits 4:1.
abbrev pub branch_distance : (bit12 bit11 bits10_5 bits4_1 : ℕ) → ℤ
branch_distance bit12 bit11 bits10_5 bits4_1 = signed_field 13 (bit12 * 2 ^ 12 + bit11 * 2 ^ 11 + bits10_5 * 2 ^ 5 + bits4_1 * 2)

-- A jump's distance in bytes by its pieces: bit 20, bits 19:12, bit 11 and bits 10:1.
abbrev pub jump_distance : (bit20 bits19_12 bit11 bits10_1 : ℕ) → ℤ
jump_distance bit20 bits19_12 bit11 bits10_1 = signed_field 21 (bit20 * 2 ^ 20 + bits19_12 * 2 ^ 12 + bit11 * 2 ^ 11 + bits10_1 * 2)
