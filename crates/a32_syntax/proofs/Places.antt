-- Registers stand at the signs of registers.
use Rattle.std.proofs.Common.{◌≡◌, ℕ, zero, suc, ◌+◌, ◌<◌, ◌≤◌, ◌==◌, ◌^◌, ◌&&◌, ◌||◌, not, nat_le, Bool, true, false, if◌then◌else◌, IsTrue, List, [], ◌∷◌, length, slice_index_or, codes, arith, refl, subst}
use Rattle.std.specs.List.{filter}
use Rattle.std.proofs.lemmas.Bool.{both_ways, and_parts, eqb-true, and_from, ltb-true, le-leb}
use Rattle.a32_forms.specs.Forms.{b, r, Chosen, form_in, forms_in, number_at}
use Rattle.a32_forms.specs.Within.{are_within_from, is_within}
use Rattle.a32_forms.specs.Written.{has_number}
use Rattle.a32_syntax.specs.inner.Bounds.{IsWithin, IsRegister}
use Rattle.llsc_base.specs.declared.access.Size.TheVariants.{B4, B8}
use Rattle.a32_syntax.specs.declared.operations.Operation.TheVariants.{Movw, Movt, Extend, BranchReg}
use Rattle.a32_syntax.specs.Operands.{block_operands, half_operands, load_exclusive_operands, operands_of, store_exclusive_operands, three_operands, two_operands, word_operands}

-- the signs of a form that have numbers
abbrev signs : List ℕ → List ℕ
signs form = filter has_number form

-- the sign at a place is this one
abbrev pub is_sign : ℕ → ℕ → List ℕ → Bool
is_sign sign at form = slice_index_or (signs form) at 0 == sign

-- The numbers at the places of a sign.

abbrev Bounds : ℕ → ℕ → Type 0
Bounds sign most = (number : ℕ) → is_within sign number ≡ true → number < most

by_sign : (h : Bool) (sign wanted most start : ℕ) (form numbers : List ℕ) (at : ℕ) → Bounds wanted most
    → ((start at : ℕ) → are_within_from start form numbers ≡ true → is_sign wanted at form ≡ true → slice_index_or numbers (start + at) 0 < most)
    → (if h then is_within sign (slice_index_or numbers start 0) && are_within_from (start + 1) form numbers else are_within_from start form numbers) ≡ true
    → (slice_index_or (if h then sign ∷ signs form else signs form) at 0 == wanted) ≡ true → slice_index_or numbers (start + at) 0 < most
by_sign false sign wanted most start form numbers at bounds later w e = later start at w e
by_sign true sign wanted most start form numbers zero bounds later w e =
    let same : sign ≡ wanted = eqb-true sign wanted e in
    let first : is_within sign (slice_index_or numbers start 0) ≡ true =
    (and_parts (is_within sign (slice_index_or numbers start 0)) (are_within_from (start + 1) form numbers) w).0 in
    let here : start + 0 ≡ start = omega arith in
    rw here (bounds (slice_index_or numbers start 0) (subst (λ sign. is_within sign (slice_index_or numbers start 0) ≡ true) same first))
by_sign true sign wanted most start form numbers (suc at) bounds later w e =
    let there : start + suc at ≡ start + 1 + at = omega arith in
    rw there (later (start + 1) at (and_parts (is_within sign (slice_index_or numbers start 0)) (are_within_from (start + 1) form numbers) w).1 e)

at_sign : (wanted most : ℕ) → (0 == wanted) ≡ false → Bounds wanted most → (form numbers : List ℕ) (start at : ℕ)
    → are_within_from start form numbers ≡ true → is_sign wanted at form ≡ true → slice_index_or numbers (start + at) 0 < most
at_sign wanted most other bounds [] numbers start at w e = absurd (both_ways (0 == wanted) other e)
at_sign wanted most other bounds (sign ∷ form) numbers start at w e =
    by_sign (has_number sign) sign wanted most start form numbers at bounds (at_sign wanted most other bounds form numbers) w e

register_bounds : Bounds r 16
register_bounds number h = ltb-true number 16 h

list_bounds : Bounds b (2 ^ 16)
list_bounds number h = ltb-true number (2 ^ 16) h

-- The forms of a text, where a test of their places says that they have the sign.

abbrev pub have_sign : ℕ → ℕ → (ℕ → Bool) → ℕ → List (List ℕ) → Bool
have_sign sign at test form [] = true
have_sign sign at test form (first ∷ forms) = (not (test form) || is_sign sign at first) && have_sign sign at test (form + 1) forms

or_right : (a b : Bool) → a ≡ true → (not a || b) ≡ true → b ≡ true
or_right true b e h = h
or_right false b e h = absurd (both_ways false refl e)

form_sign : (sign at : ℕ) (test : ℕ → Bool) (start : ℕ) (forms : List (List ℕ)) (form : ℕ) → have_sign sign at test start forms ≡ true
    → form < length forms → test (start + form) ≡ true → is_sign sign at (slice_index_or forms form []) ≡ true
form_sign sign at test start [] form h less t = absurd (omega (arith, less))
form_sign sign at test start (first ∷ forms) zero h less t =
    let here : start + 0 ≡ start = omega arith in
    or_right (test start) (is_sign sign at first) (subst (λ form. test form ≡ true) here t)
    (and_parts (not (test start) || is_sign sign at first) (have_sign sign at test (start + 1) forms) h).0
form_sign sign at test start (first ∷ forms) (suc form) h less t =
    let later : start + suc form ≡ start + 1 + form = omega arith in
    form_sign sign at test (start + 1) forms form (and_parts (not (test start) || is_sign sign at first) (have_sign sign at test (start + 1) forms) h).1
    (omega (arith, less)) (subst (λ form. test form ≡ true) later t)

-- A register stands at a place: of the forms that a test holds of, of all of them, of those from one on, or of one.

register_if : (text : List ℕ) (at : ℕ) (test : ℕ → Bool) (found : Chosen) → IsTrue (have_sign r at test 0 (forms_in text)) → IsWithin text found
    → test found.form ≡ true → IsRegister found at
unfolding IsWithin
register_if text at test found h w t =
    let here : found.form ≡ 0 + found.form = omega arith in
    let there : 0 + at ≡ at = omega arith in
    subst (λ place. slice_index_or found.fields.numbers place 0 < 16) there
    (at_sign r 16 refl register_bounds (form_in text found.form) found.fields.numbers 0 at w.1
    (form_sign r at test 0 (forms_in text) found.form h w.0 (subst (λ form. test form ≡ true) here t)))

register_at : (text : List ℕ) (at : ℕ) (found : Chosen) → IsTrue (have_sign r at (λ form. true) 0 (forms_in text)) → IsWithin text found → IsRegister found at
register_at text at found h w = register_if text at (λ form. true) found h w refl

register_from : (text : List ℕ) (at first : ℕ) (found : Chosen) → IsTrue (have_sign r at (nat_le first) 0 (forms_in text)) → IsWithin text found
    → first ≤ found.form → IsRegister found at
register_from text at first found h w less = register_if text at (nat_le first) found h w (le-leb first found.form less)

register_among : (text : List ℕ) (at first last : ℕ) (found : Chosen) → IsTrue (have_sign r at (λ form. nat_le first form && nat_le form last) 0 (forms_in text))
    → IsWithin text found → first ≤ found.form → found.form ≤ last → IsRegister found at
register_among text at first last found h w less more =
    register_if text at (λ form. nat_le first form && nat_le form last) found h w
    (and_from (nat_le first found.form) (nat_le found.form last) (le-leb first found.form less) (le-leb found.form last more))

-- Operands of data processing.

pub two_first : (found : Chosen) → IsWithin two_operands found → IsRegister found 0
two_first found = register_at two_operands 0 found refl

pub two_rm : (found : Chosen) → IsWithin two_operands found → 2 ≤ found.form → IsRegister found 1
two_rm found = register_from two_operands 1 2 found refl

pub two_rs : (found : Chosen) → IsWithin two_operands found → 5 ≤ found.form → IsRegister found 3
two_rs found = register_from two_operands 3 5 found refl

pub three_first : (found : Chosen) → IsWithin three_operands found → IsRegister found 0
three_first found = register_at three_operands 0 found refl

pub three_second : (found : Chosen) → IsWithin three_operands found → IsRegister found 1
three_second found = register_at three_operands 1 found refl

pub three_rm : (found : Chosen) → IsWithin three_operands found → 2 ≤ found.form → IsRegister found 2
three_rm found = register_from three_operands 2 2 found refl

pub three_rs : (found : Chosen) → IsWithin three_operands found → 5 ≤ found.form → IsRegister found 4
three_rs found = register_from three_operands 4 5 found refl

pub ruleset alu_registers = (two_first, two_rm, two_rs, three_first, three_second, three_rm, three_rs)

-- Loads and stores.

pub word_rt : (found : Chosen) → IsWithin word_operands found → IsRegister found 0
word_rt found = register_at word_operands 0 found refl

pub word_rn : (found : Chosen) → IsWithin word_operands found → IsRegister found 1
word_rn found = register_at word_operands 1 found refl

pub word_rm : (found : Chosen) → IsWithin word_operands found → 2 ≤ found.form → found.form ≤ 4 → IsRegister found 3
word_rm found = register_among word_operands 3 2 4 found refl

pub word_rm_behind : (found : Chosen) → IsWithin word_operands found → 6 ≤ found.form → IsRegister found 3
word_rm_behind found = register_from word_operands 3 6 found refl

pub half_rt : (found : Chosen) → IsWithin half_operands found → IsRegister found 0
half_rt found = register_at half_operands 0 found refl

pub half_rn : (found : Chosen) → IsWithin half_operands found → IsRegister found 1
half_rn found = register_at half_operands 1 found refl

pub half_rm : (found : Chosen) → IsWithin half_operands found → 2 ≤ found.form → found.form ≤ 2 → IsRegister found 3
half_rm found = register_among half_operands 3 2 2 found refl

pub half_rm_behind : (found : Chosen) → IsWithin half_operands found → 4 ≤ found.form → IsRegister found 3
half_rm_behind found = register_from half_operands 3 4 found refl

pub ruleset access_registers = (word_rt, word_rn, word_rm, word_rm_behind, half_rt, half_rn, half_rm, half_rm_behind)

-- Blocks: the base, and the list.

pub block_rn : (found : Chosen) → IsWithin block_operands found → IsRegister found 0
block_rn found = register_at block_operands 0 found refl

pub block_list : (found : Chosen) → IsWithin block_operands found → number_at found 2 < 2 ^ 16
unfolding IsWithin
block_list found w =
    at_sign b (2 ^ 16) refl list_bounds (form_in block_operands found.form) found.fields.numbers 0 2 w.1
    (form_sign b 2 (λ form. true) 0 (forms_in block_operands) found.form refl w.0 refl)

pub ruleset block_registers = (block_rn, block_list)

-- The others.

abbrev RegisterAt : List ℕ → ℕ → Type 0
RegisterAt text at = (found : Chosen) → IsWithin text found → IsRegister found at

pub movw_rd : RegisterAt (operands_of Movw) 0
movw_rd found = register_at (operands_of Movw) 0 found refl

pub movt_rd : RegisterAt (operands_of Movt) 0
movt_rd found = register_at (operands_of Movt) 0 found refl

pub ruleset move_registers = (movw_rd, movt_rd)

-- Operands that are registers alone, whatever operation has them.

abbrev two_registers : List ℕ
two_registers = codes "r, r"

abbrev three_registers : List ℕ
three_registers = codes "r, r, r"

abbrev four_registers : List ℕ
four_registers = codes "r, r, r, r"

pub two_registers_0 : RegisterAt two_registers 0
two_registers_0 found = register_at two_registers 0 found refl

pub two_registers_1 : RegisterAt two_registers 1
two_registers_1 found = register_at two_registers 1 found refl

pub three_registers_0 : RegisterAt three_registers 0
three_registers_0 found = register_at three_registers 0 found refl

pub three_registers_1 : RegisterAt three_registers 1
three_registers_1 found = register_at three_registers 1 found refl

pub three_registers_2 : RegisterAt three_registers 2
three_registers_2 found = register_at three_registers 2 found refl

pub four_registers_0 : RegisterAt four_registers 0
four_registers_0 found = register_at four_registers 0 found refl

pub four_registers_1 : RegisterAt four_registers 1
four_registers_1 found = register_at four_registers 1 found refl

pub four_registers_2 : RegisterAt four_registers 2
four_registers_2 found = register_at four_registers 2 found refl

pub four_registers_3 : RegisterAt four_registers 3
four_registers_3 found = register_at four_registers 3 found refl

pub ruleset product_registers = (three_registers_0, three_registers_1, three_registers_2, four_registers_0, four_registers_1, four_registers_2, four_registers_3)

pub extend_0 : RegisterAt (operands_of (Extend true true)) 0
extend_0 found = register_at (operands_of (Extend true true)) 0 found refl

pub extend_1 : RegisterAt (operands_of (Extend true true)) 1
extend_1 found = register_at (operands_of (Extend true true)) 1 found refl

pub ruleset part_registers = (two_registers_0, two_registers_1, extend_0, extend_1)

pub branch_rm : RegisterAt (operands_of (BranchReg true)) 0
branch_rm found = register_at (operands_of (BranchReg true)) 0 found refl

pub load_0 : (found : Chosen) → IsWithin (load_exclusive_operands B4) found → IsRegister found 0
load_0 found = register_at (load_exclusive_operands B4) 0 found refl

pub load_1 : (found : Chosen) → IsWithin (load_exclusive_operands B4) found → IsRegister found 1
load_1 found = register_at (load_exclusive_operands B4) 1 found refl

pub load_pair_0 : (found : Chosen) → IsWithin (load_exclusive_operands B8) found → IsRegister found 0
load_pair_0 found = register_at (load_exclusive_operands B8) 0 found refl

pub load_pair_2 : (found : Chosen) → IsWithin (load_exclusive_operands B8) found → IsRegister found 2
load_pair_2 found = register_at (load_exclusive_operands B8) 2 found refl

pub store_0 : (found : Chosen) → IsWithin (store_exclusive_operands B4) found → IsRegister found 0
store_0 found = register_at (store_exclusive_operands B4) 0 found refl

pub store_1 : (found : Chosen) → IsWithin (store_exclusive_operands B4) found → IsRegister found 1
store_1 found = register_at (store_exclusive_operands B4) 1 found refl

pub store_2 : (found : Chosen) → IsWithin (store_exclusive_operands B4) found → IsRegister found 2
store_2 found = register_at (store_exclusive_operands B4) 2 found refl

pub store_pair_0 : (found : Chosen) → IsWithin (store_exclusive_operands B8) found → IsRegister found 0
store_pair_0 found = register_at (store_exclusive_operands B8) 0 found refl

pub store_pair_1 : (found : Chosen) → IsWithin (store_exclusive_operands B8) found → IsRegister found 1
store_pair_1 found = register_at (store_exclusive_operands B8) 1 found refl

pub store_pair_3 : (found : Chosen) → IsWithin (store_exclusive_operands B8) found → IsRegister found 3
store_pair_3 found = register_at (store_exclusive_operands B8) 3 found refl

pub ruleset exclusive_registers = (load_0, load_1, load_pair_0, load_pair_2, store_0, store_1, store_2, store_pair_0, store_pair_1, store_pair_3)
