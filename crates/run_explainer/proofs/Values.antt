-- How many digits values have.
use Rattle.std.proofs.Common.{◌≡◌, ℕ, ◌/◌, ◌%◌, ◌^◌, ◌≤◌, List, drop, length, refl, arith, length-append, length-drop}
use Rattle.llsc_base.specs.Memory.{size_bytes}
use Rattle.llsc_base.specs.declared.access.Size.{Size}
use Rattle.llsc_base.specs.declared.access.Size.TheVariants.{B1, B2, B4, B8}
use Rattle.number_text.specs.Hexadecimal.{long_text, word_text}
use Rattle.number_text.proofs.Lengths.{word_length}

pub long_length : (value : ℕ) → length (long_text value) ≡ 16
unfolding long_text
long_length value = rw (length-append (word_text (value / 2 ^ 32)) (word_text (value % 2 ^ 32)), word_length (value / 2 ^ 32), word_length (value % 2 ^ 32)) refl

pub size_at_most : (size : Size) → size_bytes size ≤ 8
size_at_most B1 = omega arith
size_at_most B2 = omega arith
size_at_most B4 = omega arith
size_at_most B8 = omega arith

pub dropped_at_most : (n : ℕ) (xs : List ℕ) → length (drop n xs) ≤ length xs
dropped_at_most n xs = let left = length-drop n xs in omega (arith, left)
