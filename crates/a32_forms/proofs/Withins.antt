-- What the signs of a form take: a number for each that has one, within what that sign may take.
use Rattle.std.proofs.Common.{◌≡◌, ℕ, ◌<◌, ◌^◌, ◌==◌, ◌||◌, nat_le, nat_lt, if◌then◌else◌, Bool, true, false, List, [], ◌∷◌, ◌++◌, Option, Some, None, IfSome, refl, sym, ap, subst, ◌∙◌, arith, codes, inl, inr}
use Rattle.std.specs.Option.{option_map}
use Rattle.std.specs.Str.{bytes_eq}
use Rattle.std.specs.List.{list_all}
use Rattle.std.proofs.lemmas.Bool.{eqb-true, le-leb, lt-ltb, or_cases}
use Rattle.std.proofs.lemmas.Bool.Decides.{nat_tests}
use Rattle.number_text.specs.Digits.{is_digit, is_hex_digit, value_in}
use Rattle.a32_forms.specs.Text.{Part, Word, Mark, begun, begins_wordy, is_blank, is_name, is_wordy, parts}
use Rattle.a32_forms.specs.Numbers.{behind_prefix, capped, decimal_of, has_prefix, hexadecimal_of, number_of}
use Rattle.a32_forms.specs.Names.{named_registers, names_in, numbered_registers, or_else, place_from, register_of, shift_of, shifts}
use Rattle.a32_forms.specs.Registers.{registers_in}
use Rattle.a32_forms.specs.Forms.{Fields, Took, took, passed, before_mark, from_mark, takes_at_word, takes_or_not, takes_part, takes_sign, r, n, x, k, l, b, X, O, L, H}
use Rattle.a32_forms.specs.Written.{has_number}
use Rattle.a32_forms.specs.Within.{is_within}
use Rattle.a32_forms.proofs.Capped.{capped_most}
use Rattle.a32_forms.proofs.Places.{place_bound}
use Rattle.a32_forms.proofs.Masks.{registers_bound}

-- the fields that a sign leaves: with a number that it may take, where it has one, or with none
pub data Leaves (sign : ℕ) (fields : Fields) (t : Took) : Type 0 where
  with_one : (value : ℕ) → has_number sign ≡ true → is_within sign value ≡ true → t.fields.numbers ≡ fields.numbers ++ value ∷ [] → Leaves sign fields t
  with_none : has_number sign ≡ false → t.fields.numbers ≡ fields.numbers → Leaves sign fields t

-- what holds of what may be taken
abbrev LeavesIf : ℕ → Fields → Option Took → Type 0
LeavesIf sign fields taken = IfSome taken (Leaves sign fields)

by_test : (P : Option Took → Type 0) (test : Bool) (then_so else_so : Option Took) → (test ≡ true → P then_so) → (test ≡ false → P else_so)
    → P (if test then then_so else else_so)
by_test P true then_so else_so at_true at_false = at_true refl
by_test P false then_so else_so at_true at_false = at_false refl

-- a word that stands for itself, and a name
passed_if : (test : Bool) (sign : ℕ) (fields left : Fields) (rest : List Part) → has_number sign ≡ false → left.numbers ≡ fields.numbers
    → LeavesIf sign fields (if test then Some (passed left rest) else None)
passed_if true sign fields left rest h e = with_none h e
passed_if false sign fields left rest h e = tt

-- a number that a sign may take
number_if : (sign : ℕ) (fields : Fields) (rest : List Part) (found : Option ℕ) → has_number sign ≡ true → IfSome found (λ v. is_within sign v ≡ true)
    → LeavesIf sign fields (option_map (took fields rest) found)
number_if sign fields rest None h within = tt
number_if sign fields rest (Some value) h within = with_one value h within refl

-- at one sign, given by a test
at_number : (sign code : ℕ) (fields : Fields) (rest : List Part) (found : Option ℕ) → (sign == code) ≡ true
    → has_number code ≡ true → IfSome found (λ v. is_within code v ≡ true) → LeavesIf sign fields (option_map (took fields rest) found)
at_number sign code fields rest found e h within =
    let P : ℕ → Type 0 = λ s. LeavesIf s fields (option_map (took fields rest) found) in
    subst P (sym (eqb-true sign code e)) (number_if code fields rest found h within)

-- what a sign's word leaves

if_some : (found : Option ℕ) (most : ℕ) → IfSome found (λ v. v < most) → IfSome found (λ v. nat_lt v most ≡ true)
if_some None most h = tt
if_some (Some value) most h = lt-ltb value most h

or_within : (first later : Option ℕ) → IfSome first (λ v. is_within r v ≡ true) → IfSome later (λ v. is_within r v ≡ true)
    → IfSome (or_else first later) (λ v. is_within r v ≡ true)
or_within None later h g = g
or_within (Some value) later h g = h

register_within : (word : List ℕ) → IfSome (register_of word) (λ v. is_within r v ≡ true)
register_within word =
    or_within (place_from 0 (names_in numbered_registers) word) (place_from 13 (names_in named_registers) word)
    (if_some _ 16 (place_bound 0 (names_in numbered_registers) word 16 refl))
    (if_some _ 16 (place_bound 13 (names_in named_registers) word 16 refl))

shift_within : (word : List ℕ) → IfSome (shift_of word) (λ v. is_within k v ≡ true)
shift_within word = if_some _ 4 (place_bound 0 (names_in shifts) word 4 refl)

digits_within : (test : Bool) (sign value : ℕ) → is_within sign (capped value) ≡ true → IfSome (if test then Some (capped value) else None) (λ v. is_within sign v ≡ true)
digits_within true sign value h = h
digits_within false sign value h = tt

decimal_within : (sign : ℕ) (word : List ℕ) → ((value : ℕ) → is_within sign (capped value) ≡ true) → IfSome (decimal_of word) (λ v. is_within sign v ≡ true)
decimal_within sign [] h = tt
decimal_within sign (digit ∷ digits) h = digits_within (list_all is_digit (digit ∷ digits)) sign (value_in 10 (digit ∷ digits)) (h (value_in 10 (digit ∷ digits)))

hexadecimal_within : (sign : ℕ) (word : List ℕ) → ((value : ℕ) → is_within sign (capped value) ≡ true) → IfSome (hexadecimal_of word) (λ v. is_within sign v ≡ true)
hexadecimal_within sign [] h = tt
hexadecimal_within sign (digit ∷ digits) h = digits_within (list_all is_hex_digit (digit ∷ digits)) sign (value_in 16 (digit ∷ digits)) (h (value_in 16 (digit ∷ digits)))

either_within : (test : Bool) (first later : Option ℕ) (sign : ℕ) → IfSome first (λ v. is_within sign v ≡ true) → IfSome later (λ v. is_within sign v ≡ true)
    → IfSome (if test then first else later) (λ v. is_within sign v ≡ true)
either_within true first later sign h g = h
either_within false first later sign h g = g

number_within : (sign : ℕ) (word : List ℕ) → ((value : ℕ) → is_within sign (capped value) ≡ true) → IfSome (number_of word) (λ v. is_within sign v ≡ true)
number_within sign word h =
    either_within (has_prefix word) (hexadecimal_of (behind_prefix word)) (decimal_of word) sign
    (hexadecimal_within sign (behind_prefix word) h) (decimal_within sign word h)

capped_within : (value : ℕ) → nat_le (capped value) (2 ^ 32) ≡ true
capped_within value = le-leb (capped value) (2 ^ 32) (capped_most value)

at_text_number : (sign : ℕ) (fields : Fields) (word : List ℕ) (rest : List Part) → ((sign == n) || (sign == x)) ≡ true
    → LeavesIf sign fields (option_map (took fields rest) (number_of word))
at_text_number sign fields word rest e =
    elim (or_cases (sign == n) (sign == x) e) [
      | inl is_n ↦ at_number sign n fields rest (number_of word) is_n refl (number_within n word capped_within)
      | inr is_x ↦ at_number sign x fields rest (number_of word) is_x refl (number_within x word capped_within)
    ]

at_word : (sign : ℕ) (fields : Fields) (word : List ℕ) (rest : List Part) → LeavesIf sign fields (takes_at_word sign fields word rest)
unfolding takes_at_word
at_word sign fields word rest =
    by_test (LeavesIf sign fields) (sign == r) _ _
    (λ e. at_number sign r fields rest (register_of word) e refl (register_within word))
    (λ not_r. by_test (LeavesIf sign fields) ((sign == n) || (sign == x)) _ _
    (λ e. at_text_number sign fields word rest e)
    (λ not_n. by_test (LeavesIf sign fields) (sign == k) _ _
    (λ e. at_number sign k fields rest (shift_of word) e refl (shift_within word))
    (λ not_k. by_test (LeavesIf sign fields) (sign == l) _ _
    (λ e. passed_if (is_name word) sign fields (record fields { name = word }) rest (ap has_number (eqb-true sign l e)) refl)
    (λ not_l. by_test (LeavesIf sign fields) (sign == X) _ _
    (λ e. passed_if (bytes_eq word (codes "rrx")) sign fields fields rest (ap has_number (eqb-true sign X e)) refl)
    (λ not_X. by_test (LeavesIf sign fields) (sign == O) _ _
    (λ e. passed_if (bytes_eq word (codes "ror")) sign fields fields rest (ap has_number (eqb-true sign O e)) refl)
    (λ not_O. by_test (LeavesIf sign fields) (sign == L) _ _
    (λ e. passed_if (bytes_eq word (codes "lo")) sign fields fields rest (ap has_number (eqb-true sign L e)) refl)
    (λ not_L. by_test (LeavesIf sign fields) (sign == H) _ _
    (λ e. passed_if (bytes_eq word (codes "hi")) sign fields fields rest (ap has_number (eqb-true sign H e)) refl)
    (λ not_H. tt))))))))

-- what a sign that wants a mark leaves: no byte of a word is a mark

-- the first part of a text
abbrev BeginsWell : List Part → Type 0
BeginsWell (Mark mark ∷ ps) = is_wordy mark ≡ false
BeginsWell _ = Unit {0}

begins_begun : (code : ℕ) (b : Bool) (ps : List Part) → BeginsWell (begun code b ps)
begins_begun code true (Word text ∷ ps) = tt
begins_begun code true (Mark mark ∷ ps) = tt
begins_begun code true [] = tt
begins_begun code false ps = tt

begins_cons : (wordy blank : Bool) (code : ℕ) (b : Bool) (ps : List Part) → is_wordy code ≡ wordy → BeginsWell ps
    → BeginsWell (if wordy then begun code b ps else if blank then ps else Mark code ∷ ps)
begins_cons true blank code b ps is h = begins_begun code b ps
begins_cons false true code b ps is h = h
begins_cons false false code b ps is h = is

begins_well : (text : List ℕ) → BeginsWell (parts text)
unfolding parts
begins_well [] = tt
begins_well (code ∷ text) = begins_cons (is_wordy code) (is_blank code) code (begins_wordy text) (parts text) refl (begins_well text)

not_number : (sign : ℕ) → is_wordy sign ≡ false → (sign == 126) ≡ false → (sign == 33) ≡ false → has_number sign ≡ false
not_number sign h e f = grind (arith, nat_tests)

at_mark : (sign mark : ℕ) (fields : Fields) (rest : List Part) → is_wordy mark ≡ false → (sign == 126) ≡ false → (sign == 33) ≡ false
    → LeavesIf sign fields (if mark == sign then Some (passed fields rest) else None)
at_mark sign mark fields rest h e f =
    by_test (LeavesIf sign fields) (mark == sign) _ _
    (λ same. with_none (not_number sign (ap is_wordy (sym (eqb-true mark sign same)) ∙ h) e f) refl)
    (λ other. tt)

at_part : (sign : ℕ) (fields : Fields) (ps : List Part) → BeginsWell ps → (sign == 126) ≡ false → (sign == 33) ≡ false
    → LeavesIf sign fields (takes_part sign fields ps)
at_part sign fields [] h e f = tt
at_part sign fields (Word word ∷ rest) h e f = at_word sign fields word rest
at_part sign fields (Mark mark ∷ rest) h e f = at_mark sign mark fields rest h e f

-- what a mark that may be left out leaves

or_not : (code : ℕ) (fields : Fields) (ps : List Part) → is_within code 0 ≡ true → is_within code 1 ≡ true → has_number code ≡ true → (mark : ℕ)
    → LeavesIf code fields (takes_or_not mark fields ps)
or_not code fields [] zero_within one_within h mark = with_one 0 h zero_within refl
or_not code fields (Word word ∷ rest) zero_within one_within h mark = with_one 0 h zero_within refl
or_not code fields (Mark other ∷ rest) zero_within one_within h mark =
    by_test (LeavesIf code fields) (other == mark) _ _ (λ same. with_one 1 h one_within refl) (λ not_same. with_one 0 h zero_within refl)

at_or_not : (sign code mark : ℕ) (fields : Fields) (ps : List Part) → (sign == code) ≡ true → is_within code 0 ≡ true → is_within code 1 ≡ true
    → has_number code ≡ true → LeavesIf sign fields (takes_or_not mark fields ps)
at_or_not sign code mark fields ps e zero_within one_within h =
    let P : ℕ → Type 0 = λ s. LeavesIf s fields (takes_or_not mark fields ps) in
    subst P (sym (eqb-true sign code e)) (or_not code fields ps zero_within one_within h mark)

blank_has_none : (sign : ℕ) → is_blank sign ≡ true → has_number sign ≡ false
blank_has_none sign h = grind (arith, nat_tests)

list_within : (ps : List Part) → IfSome (registers_in ps) (λ v. is_within b v ≡ true)
list_within ps = if_some (registers_in ps) (2 ^ 16) (registers_bound ps)

-- what any sign leaves
pub sign_leaves : (sign : ℕ) (fields : Fields) (text : List ℕ) → LeavesIf sign fields (takes_sign sign fields (parts text))
unfolding takes_sign
sign_leaves sign fields text =
    by_test (LeavesIf sign fields) (sign == 126) _ _
    (λ e. at_or_not sign 126 45 fields (parts text) e refl refl refl)
    (λ not_dash. by_test (LeavesIf sign fields) (sign == 33) _ _
    (λ e. at_or_not sign 33 33 fields (parts text) e refl refl refl)
    (λ not_bang. by_test (LeavesIf sign fields) (sign == b) _ _
    (λ e. at_number sign b fields (from_mark 125 (parts text)) (registers_in (before_mark 125 (parts text))) e refl (list_within (before_mark 125 (parts text))))
    (λ not_b. by_test (LeavesIf sign fields) (is_blank sign) _ _
    (λ e. with_none (blank_has_none sign e) refl)
    (λ not_blank. at_part sign fields (parts text) (begins_well text) not_dash not_bang))))
