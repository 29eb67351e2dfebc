-- Hexadecimal numbers with a fixed number of digits, in lower case.
use Rattle.std.specs.Prelude.{ℕ, ◌+◌, ◌/◌, ◌%◌, ◌^◌, ◌==◌, ◌&&◌, ◌||◌, nat_le, nat_lt, if◌then◌else◌, Bool, Option, Some, None, List, [], ◌∷◌, ◌++◌, length}
use Rattle.std.specs.List.{list_all}
use Rattle.number_text.specs.Digits.{is_digit, value_in}

-- the digit of a value below 16
abbrev pub hex_digit : ℕ → ℕ
hex_digit value = if nat_lt value 10 then 48 + value else 87 + value

-- a number below 65,536 as four digits
unfoldable pub half_text : ℕ → List ℕ
half_text half = hex_digit (half / 4096) ∷ hex_digit (half / 256 % 16) ∷ hex_digit (half / 16 % 16) ∷ hex_digit (half % 16) ∷ []

-- a word of 32 bits as eight digits
unfoldable pub word_text : ℕ → List ℕ
word_text word = half_text (word / 65536) ++ half_text (word % 65536)

-- a number of 64 bits as sixteen digits
unfoldable pub long_text : ℕ → List ℕ
long_text long = word_text (long / 2 ^ 32) ++ word_text (long % 2 ^ 32)

-- a digit of lower case
abbrev pub is_lower_digit : ℕ → Bool
is_lower_digit code = is_digit code || (nat_le 97 code && nat_le code 102)

-- exactly so many digits of lower case
abbrev pub are_lower_digits : ℕ → List ℕ → Bool
are_lower_digits count word = (length word == count) && list_all is_lower_digit word

-- the number that eight digits stand for
abbrev pub word_number : List ℕ → Option ℕ
word_number word = if are_lower_digits 8 word then Some (value_in 16 word) else None

-- the number that sixteen digits stand for
abbrev pub long_number : List ℕ → Option ℕ
long_number word = if are_lower_digits 16 word then Some (value_in 16 word) else None
