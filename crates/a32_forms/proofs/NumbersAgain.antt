-- Numbers are words, and are read again.
use Rattle.std.proofs.Common.{◌≡◌, ℕ, ◌<◌, ◌^◌, true, false, Some, List, [], ◌∷◌, ◌++◌, length, refl, arith, codes}
use Rattle.std.specs.List.{list_all}
use Rattle.std.specs.Fmt.{decimal}
use Rattle.std.proofs.lemmas.Fmt.{decimal_nonempty}
use Rattle.std.proofs.lemmas.Bool.Decides.{nat_tests}
use Rattle.number_text.specs.Digits.{is_digit, is_hex_digit, value_in}
use Rattle.number_text.specs.Hexadecimal.{word_text}
use Rattle.number_text.proofs.Values.{decimal_is, word_digits, word_value}
use Rattle.number_text.proofs.Lengths.{word_length}
use Rattle.a32_forms.specs.Numbers.{number_of, decimal_of, hexadecimal_of, has_prefix, capped}

no_prefix : (word : List ℕ) → list_all is_digit word ≡ true → has_prefix word ≡ false
no_prefix [] h = refl
no_prefix (first ∷ []) h = refl
no_prefix (first ∷ second ∷ digits) h = grind (arith, nat_tests)

capped_small : (v : ℕ) → v < 2 ^ 32 → capped v ≡ v
capped_small v h = grind (arith, nat_tests)

decimal_by : (word : List ℕ) (v : ℕ) → v < 2 ^ 32 → 0 < length word → list_all is_digit word ≡ true → value_in 10 word ≡ v → decimal_of word ≡ Some v
decimal_by [] v small some digits value = absurd (omega (arith, some))
decimal_by (digit ∷ word) v small some digits value = rw (digits, value, capped_small v small) refl

hexadecimal_by : (word : List ℕ) (v : ℕ) → v < 2 ^ 32 → 0 < length word → list_all is_hex_digit word ≡ true → value_in 16 word ≡ v → hexadecimal_of word ≡ Some v
hexadecimal_by [] v small some digits value = absurd (omega (arith, some))
hexadecimal_by (digit ∷ word) v small some digits value = rw (digits, value, capped_small v small) refl

pub decimal_again : (v : ℕ) → v < 2 ^ 32 → number_of (decimal v) ≡ Some v
decimal_again v h =
    let is = decimal_is v (omega arith) in
    rw (no_prefix (decimal v) is.digits_all) (decimal_by (decimal v) v h (decimal_nonempty v (omega arith)) is.digits_all is.value)

pub word_again : (v : ℕ) → v < 2 ^ 32 → number_of (codes "0x" ++ word_text v) ≡ Some v
word_again v h = hexadecimal_by (word_text v) v h (omega (arith, word_length v)) (word_digits v h) (word_value v h)
