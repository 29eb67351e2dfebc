-- Eight and sixteen hexadecimal digits of lower case are the texts of numbers of 32 and 64 bits.
use Rattle.std.proofs.Common.{◌≡◌, ◌≤◌, ℕ, ◌+◌, ◌*◌, ◌/◌, ◌%◌, ◌^◌, ◌<◌, ◌==◌, if◌then◌else◌, Bool, true, false, suc, List, [], ◌∷◌, ◌++◌, length, take, drop, get_or, Some, None, refl, sym, ap, ◌∙◌, arith, length-append}
use Rattle.std.specs.List.{list_all}
use Rattle.std.proofs.Math.Nat.{pow-succ', mul-le-mul_left, pow-le-pow_right}
use Rattle.std.proofs.lemmas.Bool.{and_parts, eqb-true, eq-eqb}
use Rattle.std.proofs.lemmas.Bool.Decides.{nat_tests}
use Rattle.std.proofs.lemmas.List.{length-drop, length-take-le, take-append-drop}
use Rattle.std.proofs.lemmas.List.Folds.{list_all-append}
use Rattle.std.proofs.lemmas.Nat.{div-mul-add, mod-mul-add}
use Rattle.number_text.specs.Digits.{digit_value, value_in}
use Rattle.number_text.specs.Hexadecimal.{hex_digit, half_text, word_text, long_text, is_lower_digit, are_lower_digits, word_number, long_number}
use Rattle.number_text.proofs.Horner.{value_behind, value_behind_least, value_behind_more, value_behind_all}
use Rattle.number_text.proofs.Lengths.{word_length}
use Rattle.number_text.proofs.Values.{value_append, word_value}

-- a digit is that of its value

digit_again : (c : ℕ) → is_lower_digit c ≡ true → hex_digit (digit_value c) ≡ c
digit_again c h = grind (arith, nat_tests, h)

digit_less : (c : ℕ) → is_lower_digit c ≡ true → digit_value c < 16
digit_less c h = grind (arith, nat_tests, h)

digit_lower : (d : ℕ) → d < 16 → is_lower_digit (hex_digit d) ≡ true
digit_lower d h = grind (arith, nat_tests)

-- digits stand for a number that as many hold

less : (d p v : ℕ) → d < 16 → v < p → d * p + v < 16 * p
less d p v h k = let e : p * d ≤ p * 15 = mul-le-mul_left p (omega (arith, h)) in omega (arith, e, k)

pub value_less : (word : List ℕ) → list_all is_lower_digit word ≡ true → value_in 16 word < 16 ^ length word
unfolding value_in
value_less [] h = omega arith
value_less (c ∷ word) h =
    let both = and_parts (is_lower_digit c) (list_all is_lower_digit word) h in
    let is : 16 ^ suc (length word) ≡ 16 * 16 ^ length word = pow-succ' 16 (length word) in
    rw is (less (digit_value c) (16 ^ length word) (value_in 16 word) (digit_less c both.0) (value_less word both.1))

-- so many digits of lower case
pub record AreLower (count : ℕ) (word : List ℕ) : Type 0 where
  pub many : length word ≡ count
  pub lower : list_all is_lower_digit word ≡ true

-- their first ones and the others

front_of : (m n : ℕ) (word : List ℕ) → AreLower (m + n) word → AreLower m (take m word)
front_of m n word is =
    let parts : list_all is_lower_digit (take m word ++ drop m word) ≡ true = rw (take-append-drop m word) is.lower in
    let split = list_all-append is_lower_digit (take m word) (drop m word) in
    record {
      many = length-take-le m word (omega (arith, is.many));
      lower = (and_parts (list_all is_lower_digit (take m word)) (list_all is_lower_digit (drop m word)) (sym split ∙ parts)).0;
    }

back_of : (m n : ℕ) (word : List ℕ) → AreLower (m + n) word → AreLower n (drop m word)
back_of m n word is =
    let parts : list_all is_lower_digit (take m word ++ drop m word) ≡ true = rw (take-append-drop m word) is.lower in
    let split = list_all-append is_lower_digit (take m word) (drop m word) in
    record {
      many = length-drop m word ∙ omega (arith, is.many);
      lower = (and_parts (list_all is_lower_digit (take m word)) (list_all is_lower_digit (drop m word)) (sym split ∙ parts)).1;
    }

-- digits in two parts stand for a number whose quotient and remainder the parts stand for

value_parts : (m : ℕ) (word : List ℕ) (n : ℕ) → AreLower (m + n) word
    → value_in 16 word ≡ value_in 16 (take m word) * 16 ^ n + value_in 16 (drop m word)
value_parts m word n is =
    let whole = ap (value_in 16) (sym (take-append-drop m word)) in
    let power : 16 ^ length (drop m word) ≡ 16 ^ n = ap (λ k. 16 ^ k) (back_of m n word is).many in
    whole ∙ value_append 16 (take m word) (drop m word) ∙ ap (λ p. value_in 16 (take m word) * p + value_in 16 (drop m word)) power

pub value_small : (count : ℕ) (word : List ℕ) → AreLower count word → value_in 16 word < 16 ^ count
value_small count word is = rw (sym is.many) (value_less word is.lower)

-- four digits

half_of : (a b c d : ℕ) → a < 16 → b < 16 → c < 16 → d < 16 → (n : ℕ) → n ≡ a * 4096 + b * 256 + c * 16 + d
    → (n / 4096 ≡ a) × (n / 256 % 16 ≡ b) × (n / 16 % 16 ≡ c) × (n % 16 ≡ d)
half_of a b c d ha hb hc hd n h = (omega (arith, h), omega (arith, h), omega (arith, h), omega (arith, h))

four : (a b c d x y z w : ℕ) → a ≡ x → b ≡ y → c ≡ z → d ≡ w → a ∷ b ∷ c ∷ d ∷ [] ≡ x ∷ y ∷ z ∷ w ∷ []
four a b c d x y z w ha hb hc hd = rw (ha, hb, hc, hd) refl

half_again : (word : List ℕ) → AreLower 4 word → half_text (value_in 16 word) ≡ word
unfolding half_text value_in
half_again (a ∷ b ∷ c ∷ d ∷ []) is =
    let of_a = and_parts (is_lower_digit a) (list_all is_lower_digit (b ∷ c ∷ d ∷ [])) is.lower in
    let of_b = and_parts (is_lower_digit b) (list_all is_lower_digit (c ∷ d ∷ [])) of_a.1 in
    let of_c = and_parts (is_lower_digit c) (list_all is_lower_digit (d ∷ [])) of_b.1 in
    let of_d = and_parts (is_lower_digit d) (list_all is_lower_digit []) of_c.1 in
    let n : ℕ = value_in 16 (a ∷ b ∷ c ∷ d ∷ []) in
    let is_n : n ≡ digit_value a * 4096 + digit_value b * 256 + digit_value c * 16 + digit_value d = omega arith in
    let parts = half_of (digit_value a) (digit_value b) (digit_value c) (digit_value d) (digit_less a of_a.0) (digit_less b of_b.0) (digit_less c of_c.0) (digit_less d of_d.0) n is_n in
    four (hex_digit (n / 4096)) (hex_digit (n / 256 % 16)) (hex_digit (n / 16 % 16)) (hex_digit (n % 16)) a b c d
    (ap hex_digit parts.0 ∙ digit_again a of_a.0) (ap hex_digit parts.1 ∙ digit_again b of_b.0)
    (ap hex_digit parts.2 ∙ digit_again c of_c.0) (ap hex_digit parts.3 ∙ digit_again d of_d.0)
half_again [] is = absurd (omega (arith, is.many))
half_again (a ∷ []) is = absurd (omega (arith, is.many))
half_again (a ∷ b ∷ []) is = absurd (omega (arith, is.many))
half_again (a ∷ b ∷ c ∷ []) is = absurd (omega (arith, is.many))
half_again (a ∷ b ∷ c ∷ d ∷ e ∷ word) is = absurd (omega (arith, is.many))

-- eight digits

pub word_again : (word : List ℕ) → AreLower 8 word → word_text (value_in 16 word) ≡ word
unfolding word_text
word_again word is =
    let front = front_of 4 4 word is in
    let back = back_of 4 4 word is in
    let high : ℕ = value_in 16 (take 4 word) in
    let low : ℕ = value_in 16 (drop 4 word) in
    let whole : value_in 16 word ≡ high * 65536 + low = value_parts 4 word 4 is in
    let small : low < 65536 = value_small 4 (drop 4 word) back in
    let texts : word_text (value_in 16 word) ≡ half_text high ++ half_text low = rw (whole, div-mul-add high 65536 low small, mod-mul-add high 65536 low small) refl in
    texts ∙ ap (λ text. text ++ half_text low) (half_again (take 4 word) front) ∙ ap (λ text. take 4 word ++ text) (half_again (drop 4 word) back) ∙ take-append-drop 4 word

-- sixteen digits

pub long_again : (word : List ℕ) → AreLower 16 word → long_text (value_in 16 word) ≡ word
unfolding long_text
long_again word is =
    let front = front_of 8 8 word is in
    let back = back_of 8 8 word is in
    let high : ℕ = value_in 16 (take 8 word) in
    let low : ℕ = value_in 16 (drop 8 word) in
    let whole : value_in 16 word ≡ high * 2 ^ 32 + low = value_parts 8 word 8 is in
    let small : low < 2 ^ 32 = value_small 8 (drop 8 word) back in
    let texts : long_text (value_in 16 word) ≡ word_text high ++ word_text low = rw (whole, div-mul-add high (2 ^ 32) low small, mod-mul-add high (2 ^ 32) low small) refl in
    texts ∙ ap (λ text. text ++ word_text low) (word_again (take 8 word) front) ∙ ap (λ text. take 8 word ++ text) (word_again (drop 8 word) back) ∙ take-append-drop 8 word

-- the digits of a number are of lower case

half_lower : (h : ℕ) → h < 65536 → AreLower 4 (half_text h)
unfolding half_text
half_lower h small =
    let a : h / 4096 < 16 = omega arith in
    let b : h / 256 % 16 < 16 = omega arith in
    let c : h / 16 % 16 < 16 = omega arith in
    let d : h % 16 < 16 = omega arith in
    record { many = refl; lower = rw (digit_lower (h / 4096) a, digit_lower (h / 256 % 16) b, digit_lower (h / 16 % 16) c, digit_lower (h % 16) d) refl }

both_lower : (m n : ℕ) (front back : List ℕ) → AreLower m front → AreLower n back → AreLower (m + n) (front ++ back)
both_lower m n front back is_front is_back = record {
  many = rw (length-append front back, is_front.many, is_back.many) refl;
  lower = rw (list_all-append is_lower_digit front back, is_front.lower, is_back.lower) refl;
}

pub word_lower : (w : ℕ) → w < 2 ^ 32 → AreLower 8 (word_text w)
unfolding word_text
word_lower w small =
    both_lower 4 4 (half_text (w / 65536)) (half_text (w % 65536)) (half_lower (w / 65536) (omega arith)) (half_lower (w % 65536) (omega arith))

pub long_lower : (n : ℕ) → n < 2 ^ 64 → AreLower 16 (long_text n)
unfolding long_text
long_lower n small =
    both_lower 8 8 (word_text (n / 2 ^ 32)) (word_text (n % 2 ^ 32)) (word_lower (n / 2 ^ 32) (omega arith)) (word_lower (n % 2 ^ 32) (omega arith))

pub long_value : (n : ℕ) → n < 2 ^ 64 → value_in 16 (long_text n) ≡ n
unfolding long_text
long_value n small =
    let a : n / 2 ^ 32 < 2 ^ 32 = omega arith in
    let b : n % 2 ^ 32 < 2 ^ 32 = omega arith in
    rw (value_append 16 (word_text (n / 2 ^ 32)) (word_text (n % 2 ^ 32)), word_value (n / 2 ^ 32) a, word_value (n % 2 ^ 32) b, word_length (n % 2 ^ 32)) (omega arith)

-- the test of so many digits

tested : (count : ℕ) (word : List ℕ) → are_lower_digits count word ≡ true → AreLower count word
tested count word h =
    let both = and_parts (length word == count) (list_all is_lower_digit word) h in
    record { many = eqb-true (length word) count both.0; lower = both.1 }

test : (count : ℕ) (word : List ℕ) → AreLower count word → are_lower_digits count word ≡ true
test count word is = rw (eq-eqb (length word) count is.many, is.lower) refl

some_test : (b : Bool) (value n : ℕ) → (if b then Some value else None) ≡ Some n → (b ≡ true) × (value ≡ n)
some_test true value n h = (refl, cc)
some_test false value n h = cc

test_some : (b : Bool) (value n : ℕ) → b ≡ true → value ≡ n → (if b then Some value else None) ≡ Some n
test_some true value n h e = ap Some e
test_some false value n h e = cc

-- the laws

pub word_read : (word : List ℕ) (n : ℕ) → word_number word ≡ Some n → (word ≡ word_text n) × (n < 2 ^ 32)
word_read word n h =
    let read = some_test (are_lower_digits 8 word) (value_in 16 word) n h in
    let is = tested 8 word read.0 in
    let small = value_small 8 word is in
    (sym (word_again word is) ∙ ap word_text read.1, omega (arith, read.1, small))

pub read_word : (n : ℕ) → n < 2 ^ 32 → word_number (word_text n) ≡ Some n
read_word n h = test_some (are_lower_digits 8 (word_text n)) (value_in 16 (word_text n)) n (test 8 (word_text n) (word_lower n h)) (word_value n h)

pub long_read : (word : List ℕ) (n : ℕ) → long_number word ≡ Some n → (word ≡ long_text n) × (n < 2 ^ 64)
long_read word n h =
    let read = some_test (are_lower_digits 16 word) (value_in 16 word) n h in
    let is = tested 16 word read.0 in
    let small = value_small 16 word is in
    (sym (long_again word is) ∙ ap long_text read.1, omega (arith, read.1, small))

pub read_long : (n : ℕ) → n < 2 ^ 64 → long_number (long_text n) ≡ Some n
read_long n h = test_some (are_lower_digits 16 (long_text n)) (value_in 16 (long_text n)) n (test 16 (long_text n) (long_lower n h)) (long_value n h)

-- the reading of digits, one after another

-- one digit more
pub value_next : (word : List ℕ) (i number : ℕ) → i < length word → length word ≤ 16 → list_all is_lower_digit word ≡ true
    → value_behind 16 number (drop i word) ≡ value_in 16 word
    → (value_behind 16 (number * 16 + digit_value (get_or word i 0)) (drop (i + 1) word) ≡ value_in 16 word)
    × (number * 16 + digit_value (get_or word i 0) < 2 ^ 64)
value_next word i number h most lower all =
    let x : ℕ = number * 16 + digit_value (get_or word i 0) in
    let is : value_behind 16 x (drop (i + 1) word) ≡ value_in 16 word = sym (value_behind_more 16 number word i h) ∙ all in
    let least : x ≤ value_behind 16 x (drop (i + 1) word) = value_behind_least 16 x (drop (i + 1) word) (omega arith) in
    let whole : value_in 16 word < 16 ^ length word = value_less word lower in
    let powers : 16 ^ length word ≤ 16 ^ 16 = pow-le-pow_right (omega arith) most in
    (is, omega (arith, is, least, whole, powers))

-- all digits are read
pub value_end : (word : List ℕ) (i number : ℕ) → length word ≤ i → value_behind 16 number (drop i word) ≡ value_in 16 word → number ≡ value_in 16 word
value_end word i number h all = sym (value_behind_all 16 number word i h) ∙ all

-- eight digits stand for a number of 32 bits
pub eight_small : (word : List ℕ) → are_lower_digits 8 word ≡ true → value_in 16 word < 2 ^ 32
eight_small word h = value_small 8 word (tested 8 word h)
