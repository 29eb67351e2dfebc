-- The number that a plain word stands for, by its digits one after another.
use Rattle.std.proofs.Common.{◌≡◌, ◌≤◌, ℕ, ◌+◌, ◌*◌, ◌^◌, ◌<◌, ◌&&◌, nat_lt, if◌then◌else◌, Bool, true, false, List, length, drop, get_or, Option, Some, None, refl, sym, ap, ◌∙◌, arith}
use Rattle.std.proofs.lemmas.Bool.{lt-ltb, le-ltb, ltb-true, ltb-false}
use Rattle.number_text.specs.Digits.{digit_value, value_in}
use Rattle.number_text.specs.Decimal.{is_plain, plain_number}
use Rattle.number_text.proofs.Horner.{value_behind, value_behind_least, value_behind_more, value_behind_all}

-- a number within a bound, if it is
abbrev within : ℕ → Option ℕ
within value = if nat_lt value (2 ^ 64) then Some value else None

some_if : (b : Bool) (a x : ℕ) → Some a ≡ (if b then Some x else None) → (a ≡ x) × (b ≡ true)
some_if true a x h = (cc, refl)
some_if false a x h = cc

none_if : (b : Bool) (x : ℕ) → None ≡ (if b then Some x else None) → b ≡ false
none_if true x h = cc
none_if false x h = refl

-- one digit more
pub digit_next : (word : List ℕ) (i number next : ℕ) → i < length word
    → Some next ≡ within (number * 10 + digit_value (get_or word i 0))
    → value_behind 10 number (drop i word) ≡ value_in 10 word
    → (value_behind 10 next (drop (i + 1) word) ≡ value_in 10 word) × (next < 2 ^ 64)
digit_next word i number next h e all =
    let x : ℕ = number * 10 + digit_value (get_or word i 0) in
    let is = some_if (nat_lt x (2 ^ 64)) next x e in
    let less : x < 2 ^ 64 = ltb-true x (2 ^ 64) is.1 in
    (ap (λ n. value_behind 10 n (drop (i + 1) word)) is.0 ∙ sym (value_behind_more 10 number word i h) ∙ all, omega arith)

number_if : (p : Bool) (value : ℕ) → p ≡ true → value < 2 ^ 64 → (if p && nat_lt value (2 ^ 64) then Some value else None) ≡ Some value
number_if p value h less = rw (h, lt-ltb value (2 ^ 64) less) refl

none_above : (p : Bool) (value : ℕ) → 2 ^ 64 ≤ value → (if p && nat_lt value (2 ^ 64) then Some value else None) ≡ None
none_above true value more = rw (le-ltb value (2 ^ 64) more) refl
none_above false value more = refl

-- a digit that 64 bits don't hold
pub digit_wrong : (word : List ℕ) (i number : ℕ) → i < length word
    → None ≡ within (number * 10 + digit_value (get_or word i 0))
    → value_behind 10 number (drop i word) ≡ value_in 10 word
    → None ≡ plain_number word
digit_wrong word i number h e all =
    let x : ℕ = number * 10 + digit_value (get_or word i 0) in
    let more : 2 ^ 64 ≤ x = ltb-false x (2 ^ 64) (none_if (nat_lt x (2 ^ 64)) x e) in
    let least : x ≤ value_behind 10 x (drop (i + 1) word) = value_behind_least 10 x (drop (i + 1) word) (omega arith) in
    let is : value_behind 10 x (drop (i + 1) word) ≡ value_in 10 word = sym (value_behind_more 10 number word i h) ∙ all in
    sym (none_above (is_plain word) (value_in 10 word) (omega arith))

-- all digits are read
pub digits_end : (word : List ℕ) (i number : ℕ) → length word ≤ i → is_plain word ≡ true → number < 2 ^ 64
    → value_behind 10 number (drop i word) ≡ value_in 10 word
    → Some number ≡ plain_number word
digits_end word i number h plain less all =
    let is : number ≡ value_in 10 word = sym (value_behind_all 10 number word i h) ∙ all in
    ap Some is ∙ sym (number_if (is_plain word) (value_in 10 word) plain (omega arith))
