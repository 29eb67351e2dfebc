-- Decimal numbers as they stand in words, records and reports: no sign, and no zero before other digits.
use Rattle.std.specs.Prelude.{ℕ, ◌^◌, ◌==◌, ◌&&◌, ◌||◌, not, nat_lt, if◌then◌else◌, Bool, List, length, slice_index, Option, Some, None}
use Rattle.std.specs.List.{list_all}
use Rattle.number_text.specs.Digits.{is_digit, value_in}

-- digits, one of them at least, and no zero before others
abbrev pub is_plain : List ℕ → Bool
is_plain word = nat_lt 0 (length word) && list_all is_digit word && (not (slice_index word 0 == 48) || (length word == 1))

-- the number that a word stands for, if it is one that 64 bits hold
abbrev pub plain_number : List ℕ → Option ℕ
plain_number word = if is_plain word && nat_lt (value_in 10 word) (2 ^ 64) then Some (value_in 10 word) else None
