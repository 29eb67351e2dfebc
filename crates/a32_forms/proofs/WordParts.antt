-- Words at the front of a text are parts of it.
use Rattle.std.proofs.Common.{◌≡◌, ℕ, ◌<◌, ◌^◌, ◌&&◌, Bool, true, false, List, [], ◌∷◌, ◌++◌, length, refl, arith, codes}
use Rattle.std.specs.List.{list_all}
use Rattle.std.specs.Fmt.{decimal}
use Rattle.std.proofs.lemmas.Fmt.{decimal_nonempty}
use Rattle.std.proofs.lemmas.Bool.{false≢true}
use Rattle.std.proofs.lemmas.Bool.Decides.{nat_tests}
use Rattle.number_text.specs.Digits.{is_digit, is_hex_digit}
use Rattle.number_text.specs.Hexadecimal.{word_text}
use Rattle.number_text.proofs.Values.{decimal_is, word_digits}
use Rattle.a32_forms.specs.Text.{Word, is_wordy, begins_wordy, parts}
use Rattle.a32_forms.specs.Names.{register_name, shift_name}
use Rattle.a32_forms.proofs.Below.{below_4, below_16}

-- a word: letters, digits and `_`, one of them at least
abbrev pub is_word : List ℕ → Bool
is_word [] = false
is_word (code ∷ text) = is_wordy code && list_all is_wordy text

pub parts_word : (word rest : List ℕ) → is_word word ≡ true → begins_wordy rest ≡ false → parts (word ++ rest) ≡ Word word ∷ parts rest
unfolding parts
parts_word [] rest h ends = absurd (false≢true h)
parts_word (code ∷ []) rest h ends = grind (arith, h, ends)
parts_word (code ∷ next ∷ word) rest h ends =
    let tail : is_word (next ∷ word) ≡ true = grind (arith, h) in
    let first : is_wordy code ≡ true = grind (arith, h) in
    let second : is_wordy next ≡ true = grind (arith, h) in
    rw (parts_word (next ∷ word) rest tail ends, first, second) refl

-- what is shown as a word

pub register_is_word : (v : ℕ) → v < 16 → is_word (register_name v) ≡ true
register_is_word v h = below_16 (λ v. is_word (register_name v) ≡ true) refl refl refl refl refl refl refl refl refl refl refl refl refl refl refl refl v h

pub shift_is_word : (v : ℕ) → v < 4 → is_word (shift_name v) ≡ true
shift_is_word v h = below_4 (λ v. is_word (shift_name v) ≡ true) refl refl refl refl v h

digits_wordy : (digits : List ℕ) → list_all is_digit digits ≡ true → list_all is_wordy digits ≡ true
digits_wordy [] h = refl
digits_wordy (digit ∷ digits) h = grind (arith, nat_tests, digits_wordy digits)

hex_digits_wordy : (digits : List ℕ) → list_all is_hex_digit digits ≡ true → list_all is_wordy digits ≡ true
hex_digits_wordy [] h = refl
hex_digits_wordy (digit ∷ digits) h = grind (arith, nat_tests, hex_digits_wordy digits)

word_by : (word : List ℕ) → 0 < length word → list_all is_wordy word ≡ true → is_word word ≡ true
word_by [] some h = absurd (omega (arith, some))
word_by (code ∷ word) some h = h

pub decimal_is_word : (v : ℕ) → v < 2 ^ 32 → is_word (decimal v) ≡ true
decimal_is_word v h = word_by (decimal v) (decimal_nonempty v (omega arith)) (digits_wordy (decimal v) (decimal_is v (omega arith)).digits_all)

pub word_is_word : (v : ℕ) → v < 2 ^ 32 → is_word (codes "0x" ++ word_text v) ≡ true
word_is_word v h = hex_digits_wordy (word_text v) (word_digits v h)
