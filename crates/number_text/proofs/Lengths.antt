-- How many bytes numbers have as text.
use Rattle.std.proofs.Common.{◌≡◌, ℕ, ◌/◌, ◌%◌, ◌^◌, ◌<◌, ◌≤◌, length, refl, arith, length-append}
use Rattle.std.specs.Fmt.{decimal}
use Rattle.std.proofs.lemmas.Fmt.{length-decimal-le}
use Rattle.number_text.specs.Hexadecimal.{half_text, word_text}

-- at most 10 digits for a number of 32 bits, and at most 20 for one of 64

pub short_decimal : (n : ℕ) → n < 2 ^ 32 → length (decimal n) ≤ 10
short_decimal n h = length-decimal-le 10 n (omega arith) (omega arith) (omega arith)

pub long_decimal : (n : ℕ) → n < 2 ^ 64 → length (decimal n) ≤ 20
long_decimal n h = length-decimal-le 20 n (omega arith) (omega arith) h

pub half_length : (h : ℕ) → length (half_text h) ≡ 4
unfolding half_text
half_length h = refl

pub word_length : (w : ℕ) → length (word_text w) ≡ 8
unfolding word_text
word_length w = rw (length-append (half_text (w / 65536)) (half_text (w % 65536)), half_length (w / 65536), half_length (w % 65536)) refl

pub ruleset lengths = (short_decimal, word_length)
