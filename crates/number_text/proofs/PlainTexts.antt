-- Plain numbers are the decimal texts of numbers below 2 to the 64th.
use Rattle.std.proofs.Common.{◌≡◌, ◌≤◌, ℕ, ◌+◌, ◌-◌, ◌*◌, ◌^◌, ◌<◌, ◌==◌, ◌&&◌, ◌||◌, not, nat_lt, if◌then◌else◌, Bool, true, false, List, length, get_or, Some, None, refl, sym, ap, ◌∙◌, arith, rules, inl, inr}
use Rattle.std.specs.List.{list_all}
use Rattle.std.specs.Fmt.{decimal}
use Rattle.std.proofs.lemmas.Bool.{and_parts, cases_lt, lt-ltb, ltb-true}
use Rattle.std.proofs.lemmas.Bool.Decides.{nat_tests}
use Rattle.std.proofs.lemmas.Fmt.{decimal_digit, decimal_nonempty, decimal-digits_value, digits_decimal, digits_value-decimal, first_decimal}
use Rattle.std.proofs.lemmas.Str.Parse.{IsDigitsTest, IsNumeralModel, WeighsDigits, numerals_by_weight}
use Rattle.number_text.specs.Digits.{digit_value, is_digit, value_in}
use Rattle.number_text.specs.Decimal.{is_plain, plain_number}

digit_is : (c : ℕ) → c ≤ 57 → digit_value c ≡ c - 48
digit_is c h = grind (arith, nat_tests)

weighs : WeighsDigits (value_in 10)
unfolding value_in
weighs = record { empty = refl; more = λ c cs h. ap (λ d. d * 10 ^ length cs + value_in 10 cs) (digit_is c (omega (arith, h))) }

digits_are : IsDigitsTest (λ ds. list_all is_digit ds ≡ true)
digits_are = search rules

own : IsNumeralModel (λ ds. list_all is_digit ds ≡ true) (value_in 10)
own = numerals_by_weight _ digits_are (value_in 10) weighs

-- the parts of the tests

some_test : (test : Bool) (value n : ℕ) → (if test then Some value else None) ≡ Some n → (test ≡ true) × (value ≡ n)
some_test true value n h = (refl, cc)
some_test false value n h = cc

not_false : (b : Bool) → not b ≡ true → b ≡ false
not_false true h = cc
not_false false h = refl

alone : (word : List ℕ) → (not (get_or word 0 0 == 48) || (length word == 1)) ≡ true → get_or word 0 0 ≡ 48 → length word ≡ 1
alone word h zero_first = grind (arith, nat_tests, h)

-- a plain number is the text of the number that it stands for
pub plain_text : (word : List ℕ) (n : ℕ) → plain_number word ≡ Some n → (word ≡ decimal n) × (n < 2 ^ 64)
plain_text word n h =
    let test = some_test (is_plain word && nat_lt (value_in 10 word) (2 ^ 64)) (value_in 10 word) n h in
    let both = and_parts (is_plain word) (nat_lt (value_in 10 word) (2 ^ 64)) test.0 in
    let less : value_in 10 word < 2 ^ 64 = ltb-true (value_in 10 word) (2 ^ 64) both.1 in
    let plain = and_parts (nat_lt 0 (length word) && list_all is_digit word) (not (get_or word 0 0 == 48) || (length word == 1)) both.0 in
    let digits = and_parts (nat_lt 0 (length word)) (list_all is_digit word) plain.0 in
    let text : decimal (value_in 10 word) ≡ word =
    decimal-digits_value own word digits.1 (ltb-true 0 (length word) digits.0) (alone word plain.1) less in
    (sym text ∙ ap decimal test.1, omega (arith, test.1))

-- the text of a number is plain

or_true : (b : Bool) → (b || true) ≡ true
or_true true = refl
or_true false = refl

one_alone : (n : ℕ) → (not (48 + n == 48) || true) ≡ true
one_alone n = or_true (not (48 + n == 48))

no_zero : (word : List ℕ) → 48 < get_or word 0 0 → (not (get_or word 0 0 == 48) || (length word == 1)) ≡ true
no_zero word h = grind (arith, nat_tests)

first_plain : (n : ℕ) → n < 2 ^ 64 → (not (get_or (decimal n) 0 0 == 48) || (length (decimal n) == 1)) ≡ true
first_plain n h =
    elim (cases_lt n 10) [
      | inl small ↦ ap (λ word. not (get_or word 0 0 == 48) || (length word == 1)) (decimal_digit n small) ∙ one_alone n
      | inr great ↦ let first = first_decimal n (omega arith) h in no_zero (decimal n) first
    ]

pub text_plain : (n : ℕ) → n < 2 ^ 64 → plain_number (decimal n) ≡ Some n
text_plain n h =
    let value : value_in 10 (decimal n) ≡ n = digits_value-decimal own n h in
    let digits : list_all is_digit (decimal n) ≡ true = digits_decimal own n h in
    let some : nat_lt 0 (length (decimal n)) ≡ true = lt-ltb 0 (length (decimal n)) (decimal_nonempty n h) in
    let less : nat_lt (value_in 10 (decimal n)) (2 ^ 64) ≡ true = lt-ltb (value_in 10 (decimal n)) (2 ^ 64) (omega arith) in
    rw (some, digits, first_plain n h, less, value) refl
