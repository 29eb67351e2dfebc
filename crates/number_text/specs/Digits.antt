-- Digits and what they are worth.
use Rattle.std.specs.Prelude.{ℕ, ◌+◌, ◌-◌, ◌*◌, ◌^◌, ◌&&◌, ◌||◌, nat_le, nat_lt, if◌then◌else◌, Bool, List, [], ◌∷◌, length}

-- a decimal digit
abbrev pub is_digit : ℕ → Bool
is_digit code = nat_le 48 code && nat_le code 57

-- a hexadecimal digit, of either case
abbrev pub is_hex_digit : ℕ → Bool
is_hex_digit code = is_digit code || ((nat_le 65 code && nat_le code 70) || (nat_le 97 code && nat_le code 102))

-- what a digit stands for
abbrev pub digit_value : ℕ → ℕ
digit_value code = if nat_lt code 65 then code - 48 else if nat_lt code 97 then code - 55 else code - 87

-- what digits stand for together: each is worth its value times the base for each place behind it
unfoldable pub value_in : ℕ → List ℕ → ℕ
value_in base [] = 0
value_in base (digit ∷ digits) = digit_value digit * base ^ length digits + value_in base digits
