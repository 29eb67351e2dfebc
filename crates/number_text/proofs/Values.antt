-- What digits stand for together: decimal numbers and words of eight hexadecimal digits stand for themselves.
use Rattle.std.proofs.Common.{◌≡◌, ℕ, ◌+◌, ◌*◌, ◌/◌, ◌%◌, ◌^◌, ◌<◌, ◌≤◌, true, List, [], ◌∷◌, ◌++◌, length, refl, arith, length-append}
use Rattle.std.specs.Fmt.{decimal}
use Rattle.std.specs.List.{list_all}
use Rattle.std.proofs.lemmas.Nat.{pow-add}
use Rattle.std.proofs.lemmas.Fmt.{decimal_by_steps}
use Rattle.std.proofs.lemmas.List.Folds.{list_all-append}
use Rattle.std.proofs.lemmas.Bool.Decides.{nat_tests}
use Rattle.number_text.specs.Digits.{is_digit, is_hex_digit, digit_value, value_in}
use Rattle.number_text.specs.Hexadecimal.{hex_digit, half_text, word_text}
use Rattle.number_text.proofs.Lengths.{half_length}

regroup : (d p q v w : ℕ) → d * (p * q) + (v * q + w) ≡ (d * p + v) * q + w
regroup d p q v w = omega arith

-- digits in front of others are worth what they are alone times the base for each of the others
pub value_append : (base : ℕ) (front back : List ℕ) → value_in base (front ++ back) ≡ value_in base front * base ^ length back + value_in base back
unfolding value_in
value_append base [] back = omega arith
value_append base (digit ∷ front) back =
    rw (value_append base front back, length-append front back, pow-add base (length front) (length back)) (regroup (digit_value digit) (base ^ length front) (base ^ length back) (value_in base front) (value_in base back))

-- a decimal number: its digits are digits, and stand for it
pub record IsDecimal (number : ℕ) (digits : List ℕ) : Type 0 where
  pub digits_all : list_all is_digit digits ≡ true
  pub value : value_in 10 digits ≡ number

one : (n : ℕ) → n < 10 → IsDecimal n ((48 + n) ∷ [])
unfolding value_in
one n h = record { digits_all = grind (arith, nat_tests); value = grind (arith, nat_tests) }

last : (d : ℕ) → d < 10 → value_in 10 ((48 + d) ∷ []) ≡ d
last d h = (one d h).value

more : (n : ℕ) (digits : List ℕ) → 10 ≤ n → IsDecimal (n / 10) digits → IsDecimal n (digits ++ ((48 + n % 10) ∷ []))
more n digits h is =
    let small : n % 10 < 10 = omega arith in
    record {
      digits_all = rw (list_all-append is_digit digits ((48 + n % 10) ∷ []), is.digits_all, (one (n % 10) small).digits_all) refl;
      value = rw (value_append 10 digits ((48 + n % 10) ∷ []), is.value, last (n % 10) small) (omega arith);
    }

pub decimal_is : (n : ℕ) → n < 2 ^ 64 → IsDecimal n (decimal n)
decimal_is n h = decimal_by_steps IsDecimal one more n h

-- eight hexadecimal digits: they are digits, and stand for the word

digit_of : (d : ℕ) → d < 16 → digit_value (hex_digit d) ≡ d
digit_of d h = grind (arith, nat_tests)

is_digit_of : (d : ℕ) → d < 16 → is_hex_digit (hex_digit d) ≡ true
is_digit_of d h = grind (arith, nat_tests)

half_digits : (h : ℕ) → h < 65536 → list_all is_hex_digit (half_text h) ≡ true
unfolding half_text
half_digits h small =
    let a : h / 4096 < 16 = omega arith in
    let b : h / 256 % 16 < 16 = omega arith in
    let c : h / 16 % 16 < 16 = omega arith in
    let d : h % 16 < 16 = omega arith in
    rw (is_digit_of (h / 4096) a, is_digit_of (h / 256 % 16) b, is_digit_of (h / 16 % 16) c, is_digit_of (h % 16) d) refl

half_value : (h : ℕ) → h < 65536 → value_in 16 (half_text h) ≡ h
unfolding half_text value_in
half_value h small =
    let a : h / 4096 < 16 = omega arith in
    let b : h / 256 % 16 < 16 = omega arith in
    let c : h / 16 % 16 < 16 = omega arith in
    let d : h % 16 < 16 = omega arith in
    rw (digit_of (h / 4096) a, digit_of (h / 256 % 16) b, digit_of (h / 16 % 16) c, digit_of (h % 16) d) (omega arith)

pub word_digits : (w : ℕ) → w < 2 ^ 32 → list_all is_hex_digit (word_text w) ≡ true
unfolding word_text
word_digits w small =
    let a : w / 65536 < 65536 = omega arith in
    let b : w % 65536 < 65536 = omega arith in
    rw (list_all-append is_hex_digit (half_text (w / 65536)) (half_text (w % 65536)), half_digits (w / 65536) a, half_digits (w % 65536) b) refl

pub word_value : (w : ℕ) → w < 2 ^ 32 → value_in 16 (word_text w) ≡ w
unfolding word_text
word_value w small =
    let a : w / 65536 < 65536 = omega arith in
    let b : w % 65536 < 65536 = omega arith in
    rw (value_append 16 (half_text (w / 65536)) (half_text (w % 65536)), half_value (w / 65536) a, half_value (w % 65536) b, half_length (w % 65536)) (omega arith)
