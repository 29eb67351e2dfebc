-- Numbers that 32 bits don't hold, by their digits one after another.
use Rattle.std.proofs.Common.{◌≡◌, ◌≤◌, ℕ, ◌+◌, ◌*◌, ◌^◌, ◌<◌, List, length, drop, get_or, refl, sym, ap, ◌∙◌, arith, inl, inr}
use Rattle.std.proofs.lemmas.Bool.{cases_lt, lt-ltb, le-ltb}
use Rattle.number_text.specs.Digits.{digit_value, value_in}
use Rattle.number_text.proofs.Horner.{value_behind, value_behind_zero, value_behind_least, value_behind_more, value_behind_all}
use Rattle.a32_forms.specs.Numbers.{capped}

capped_small : (x : ℕ) → x < 2 ^ 32 → capped x ≡ x
capped_small x h = rw (lt-ltb x (2 ^ 32) h) refl

capped_great : (x : ℕ) → 2 ^ 32 ≤ x → capped x ≡ 2 ^ 32
capped_great x h = rw (le-ltb x (2 ^ 32) h) refl

pub capped_most : (x : ℕ) → capped x ≤ 2 ^ 32
capped_most x =
    elim (cases_lt x (2 ^ 32)) [
      | inl less ↦ let e = capped_small x less in omega arith
      | inr more ↦ let e = capped_great x more in omega arith
    ]

-- a number that is capped already
capped_again : (x : ℕ) → x ≤ 2 ^ 32 → capped x ≡ x
capped_again x h =
    elim (cases_lt x (2 ^ 32)) [
      | inl less ↦ capped_small x less
      | inr more ↦ let e : 2 ^ 32 ≡ x = omega arith in capped_great x more ∙ e
    ]

-- digits behind a number that is too great give one that is
capped_behind : (base x : ℕ) (digits : List ℕ) → 0 < base → capped (value_behind base (capped x) digits) ≡ capped (value_behind base x digits)
capped_behind base x digits h =
    elim (cases_lt x (2 ^ 32)) [
      | inl less ↦ ap (λ n. capped (value_behind base n digits)) (capped_small x less)
      | inr more ↦
          let one : 2 ^ 32 ≤ value_behind base (2 ^ 32) digits = value_behind_least base (2 ^ 32) digits h in
          let all : x ≤ value_behind base x digits = value_behind_least base x digits h in
          let great : 2 ^ 32 ≤ value_behind base x digits = omega arith in
          ap (λ n. capped (value_behind base n digits)) (capped_great x more)
          ∙ capped_great (value_behind base (2 ^ 32) digits) one
          ∙ sym (capped_great (value_behind base x digits) great)
    ]

-- none is read
pub capped_none : (base : ℕ) (digits : List ℕ) → capped (value_behind base 0 digits) ≡ capped (value_in base digits)
capped_none base digits = ap capped (value_behind_zero base digits)

-- one digit more
pub capped_more : (base value : ℕ) (digits : List ℕ) (i : ℕ) → i < length digits → 0 < base
    → capped (value_behind base (capped (value * base + digit_value (get_or digits i 0))) (drop (i + 1) digits))
    ≡ capped (value_behind base value (drop i digits))
capped_more base value digits i h positive =
    capped_behind base (value * base + digit_value (get_or digits i 0)) (drop (i + 1) digits) positive
    ∙ ap capped (sym (value_behind_more base value digits i h))

-- all are read
pub capped_all : (base value : ℕ) (digits : List ℕ) (i : ℕ) → length digits ≤ i → value ≤ 2 ^ 32
    → capped (value_behind base value (drop i digits)) ≡ value
capped_all base value digits i h within = ap capped (value_behind_all base value digits i h) ∙ capped_again value within
