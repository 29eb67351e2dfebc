-- The numbers of the assembler: decimal, or `0x` and hexadecimal digits; zeros may stand in front.
use Rattle.std.specs.Prelude.{ℕ, ◌^◌, ◌==◌, ◌&&◌, nat_lt, if◌then◌else◌, Bool, false, List, [], ◌∷◌, Option, Some, None}
use Rattle.std.specs.List.{list_all}
use Rattle.number_text.specs.Digits.{is_digit, is_hex_digit, value_in}

-- what stands for each number that 32 bits don't hold
abbrev pub too_great : ℕ
too_great = 2 ^ 32

abbrev pub capped : ℕ → ℕ
capped value = if nat_lt value too_great then value else too_great

-- digits, one of them at least, by what they stand for
abbrev pub decimal_of : List ℕ → Option ℕ
decimal_of [] = None
decimal_of (digit ∷ digits) = if list_all is_digit (digit ∷ digits) then Some (capped (value_in 10 (digit ∷ digits))) else None

abbrev pub hexadecimal_of : List ℕ → Option ℕ
hexadecimal_of [] = None
hexadecimal_of (digit ∷ digits) = if list_all is_hex_digit (digit ∷ digits) then Some (capped (value_in 16 (digit ∷ digits))) else None

-- a word that begins with `0x`
abbrev pub has_prefix : List ℕ → Bool
has_prefix [] = false
has_prefix (first ∷ []) = false
has_prefix (first ∷ second ∷ digits) = (first == 48) && (second == 120)

abbrev pub behind_prefix : List ℕ → List ℕ
behind_prefix [] = []
behind_prefix (first ∷ []) = []
behind_prefix (first ∷ second ∷ digits) = digits

-- the number that a word stands for, if it is one
abbrev pub number_of : List ℕ → Option ℕ
number_of word = if has_prefix word then hexadecimal_of (behind_prefix word) else decimal_of word
