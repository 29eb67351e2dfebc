-- What digits that are read and digits that are left stand for together.
use Rattle.std.proofs.Common.{◌≡◌, ◌≤◌, ℕ, ◌+◌, ◌*◌, ◌^◌, ◌<◌, suc, List, [], ◌∷◌, length, drop, get_or, ◌∙◌, arith}
use Rattle.std.proofs.Math.Nat.{one-le-pow, pow-zero, pow-succ', mul-le-mul_left}
use Rattle.std.proofs.lemmas.List.{at_drop_more, at_drop_all}
use Rattle.number_text.specs.Digits.{digit_value, value_in}

-- a number with these digits behind it
unfoldable pub value_behind : ℕ → ℕ → List ℕ → ℕ
value_behind base number digits = number * base ^ length digits + value_in base digits

-- none is read
pub value_behind_zero : (base : ℕ) (digits : List ℕ) → value_behind base 0 digits ≡ value_in base digits
unfolding value_behind
value_behind_zero base digits = grind arith

-- all is read
pub value_behind_nil : (base number : ℕ) → value_behind base number [] ≡ number
unfolding value_behind value_in
value_behind_nil base number = rw pow-zero (omega arith)

-- one digit more, of those that stand at the front
behind_cons : (base number value places rest power : ℕ) → power ≡ base * places
    → number * power + (value * places + rest) ≡ (number * base + value) * places + rest
behind_cons base number value places rest power h = rw h (grind arith)

pub value_behind_cons : (base number digit : ℕ) (digits : List ℕ)
    → value_behind base number (digit ∷ digits) ≡ value_behind base (number * base + digit_value digit) digits
unfolding value_behind value_in
value_behind_cons base number digit digits =
    behind_cons base number (digit_value digit) (base ^ length digits) (value_in base digits) (base ^ suc (length digits)) (pow-succ' base (length digits))

-- what is read isn't above the whole
least : (number places rest : ℕ) → 1 ≤ places → number ≤ number * places + rest
least number places rest h = let e : number * 1 ≤ number * places = mul-le-mul_left number h in omega arith

pub value_behind_least : (base number : ℕ) (digits : List ℕ) → 0 < base → number ≤ value_behind base number digits
unfolding value_behind
value_behind_least base number digits h = least number (base ^ length digits) (value_in base digits) (one-le-pow (length digits) base h)

-- the same, of those that a loop has left
pub value_behind_more : (base number : ℕ) (word : List ℕ) (i : ℕ) → i < length word
    → value_behind base number (drop i word) ≡ value_behind base (number * base + digit_value (get_or word i 0)) (drop (i + 1) word)
value_behind_more base number word i h =
    at_drop_more (value_behind base number) word i 0 h ∙ value_behind_cons base number (get_or word i 0) (drop (i + 1) word)

pub value_behind_all : (base number : ℕ) (word : List ℕ) (i : ℕ) → length word ≤ i → value_behind base number (drop i word) ≡ number
value_behind_all base number word i h = at_drop_all (value_behind base number) word i h ∙ value_behind_nil base number
