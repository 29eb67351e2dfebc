-- A form takes from what it shows the numbers that it was shown with.
use Rattle.std.proofs.Common.{◌≡◌, ℕ, zero, suc, ◌<◌, ◌^◌, ◌||◌, ◌==◌, eqb, Bool, true, false, Some, List, [], ◌∷◌, ◌++◌, length, drop, refl, ap, subst, arith, append_assoc, append-nil}
use Rattle.std.specs.Prelude.{if◌then◌else◌}
use Rattle.std.proofs.Math.Dec.{eqb-suc-zero}
use Rattle.std.proofs.lemmas.Bool.{false≢true, eq-eqb}
use Rattle.std.proofs.lemmas.Bool.Decides.{nat_tests}
use Rattle.a32_instr.specs.Block.{registers_of}
use Rattle.a32_forms.specs.Text.{Part, Word, Mark, is_blank, parts}
use Rattle.a32_forms.specs.Registers.{registers_in}
use Rattle.a32_forms.specs.Forms.{b, k, n, r, x, H, L, O, X, Fields, no_fields, with_number, took, passed, takes_at_word, takes_or_not, takes_registers, takes_sign, takes_from, takes}
use Rattle.a32_forms.specs.Written.{written}
use Rattle.a32_forms.specs.Fits.{fits_form}
use Rattle.a32_forms.specs.Shown.{list_parts, mark_parts, number_parts, sign_parts, pieces, is_plain, begins_with, may_begin, goes_on, is_form}
use Rattle.a32_forms.proofs.NamesAgain.{register_again, shift_again}
use Rattle.a32_forms.proofs.NumbersAgain.{decimal_again, word_again}
use Rattle.a32_forms.proofs.ListsAgain.{list_again, list_some, before_brace, from_brace}
use Rattle.a32_forms.proofs.EachSign.{same, each_sign, plain_has_none, plain_parts, plain_no_mark, plain_no_list, fits_behind, not_false, below_and, by_sign}
use Rattle.a32_forms.proofs.PartsWritten.{parts_written}

-- Where a form can't begin with a mark, the parts that it shows don't.

-- the first part is this mark
abbrev first_is : ℕ → List Part → Bool
first_is code [] = false
first_is code (Word text ∷ found) = false
first_is code (Mark mark ∷ found) = mark == code

AtFirst : ℕ → ℕ → Type 0
AtFirst code sign = (form numbers : List ℕ) → may_begin code (sign ∷ form) ≡ false → fits_form (sign ∷ form) numbers ≡ true → ((others : List ℕ) → may_begin code form ≡ false → fits_form form others ≡ true → first_is code (pieces form others) ≡ false) → first_is code (pieces (sign ∷ form) numbers) ≡ false

first_word : (code : ℕ) (word : List ℕ) (found : List Part) → first_is code (Word word ∷ found) ≡ false
first_word code word found = refl

list_first : (code : ℕ) (registers : List ℕ) (found : List Part) → 0 < length registers → first_is code (list_parts registers ++ found) ≡ false
unfolding list_parts
list_first code [] found h = absurd (omega (arith, h))
list_first code (register ∷ []) found h = refl
list_first code (register ∷ next ∷ registers) found h = refl

first_b : (code : ℕ) → AtFirst code b
unfolding AtFirst pieces number_parts
first_b code form [] free fits further = absurd (false≢true fits)
first_b code form (v ∷ vs) free fits further =
    let some : 0 < v = grind (arith, nat_tests, fits) in
    let small : v < 2 ^ 16 = grind (arith, nat_tests, fits) in
    list_first code (registers_of v) (pieces form vs) (list_some v some small)

other_mark : (code mark : ℕ) (others : Bool) → ((code == mark) || others) ≡ false → ((mark == code) ≡ false) × (others ≡ false)
other_mark code mark true h = absurd (grind (arith, nat_tests, h))
other_mark code mark false h = (grind (arith, nat_tests, h), refl)

mark_first : (code mark v : ℕ) (found : List Part) → (mark == code) ≡ false → first_is code found ≡ false → first_is code (mark_parts mark v ++ found) ≡ false
mark_first code mark zero found e h = h
mark_first code mark (suc v) found e h = rw (eqb-suc-zero v) e

first_dash : (code : ℕ) → AtFirst code 126
unfolding AtFirst pieces number_parts
first_dash code form [] free fits further = absurd (false≢true fits)
first_dash code form (v ∷ vs) free fits further =
    let no = other_mark code 45 (may_begin code form) free in
    mark_first code 45 v (pieces form vs) no.0 (further vs no.1 (below_and v 2 (fits_form form vs) fits).1)

first_bang : (code : ℕ) → AtFirst code 33
unfolding AtFirst pieces number_parts
first_bang code form [] free fits further = absurd (false≢true fits)
first_bang code form (v ∷ vs) free fits further =
    let no = other_mark code 33 (may_begin code form) free in
    mark_first code 33 v (pieces form vs) no.0 (further vs no.1 (below_and v 2 (fits_form form vs) fits).1)

plain_first : (code sign : ℕ) (form : List ℕ) (blank : Bool) (found : List Part) → is_plain sign ≡ true → is_blank sign ≡ blank → may_begin code (sign ∷ form) ≡ false → (may_begin code form ≡ false → first_is code found ≡ false) → first_is code ((if blank then [] else Mark sign ∷ []) ++ found) ≡ false
plain_first code sign form true found plain e free further = further (rw e at free)
plain_first code sign form false found plain e free further =
    let no = plain_no_mark sign plain in
    let free_here : eqb sign code ≡ false = rw (e, no.0, no.1) at free in
    free_here

first_plain : (code sign : ℕ) → is_plain sign ≡ true → AtFirst code sign
unfolding AtFirst pieces
first_plain code sign plain form numbers free fits further =
    let none = plain_has_none sign plain in
    rw (none, plain_parts sign plain) (plain_first code sign form (is_blank sign) (pieces form numbers) plain refl free (λ h. further numbers h (fits_behind sign form numbers none fits)))

not_first : (code : ℕ) (form numbers : List ℕ) → is_form form ≡ true → may_begin code form ≡ false → fits_form form numbers ≡ true → first_is code (pieces form numbers) ≡ false
unfolding AtFirst pieces number_parts sign_parts
not_first code [] numbers is free fits = refl
not_first code (sign ∷ form) numbers is free fits =
    let of = by_sign sign form is in
    each_sign (AtFirst code)
    (λ form numbers free fits further. refl) (λ form numbers free fits further. refl) (λ form numbers free fits further. refl) (λ form numbers free fits further. refl)
    (first_b code)
    (λ form numbers free fits further. refl) (λ form numbers free fits further. refl) (λ form numbers free fits further. refl) (λ form numbers free fits further. refl)
    (first_dash code) (first_bang code) (first_plain code) sign of.0
    form numbers free fits (λ others free fits. not_first code form others of.2 free fits)

-- What a sign takes, and then the rest of the form.

-- fields with further numbers
abbrev pub with_numbers : Fields → List ℕ → Fields
with_numbers fields numbers = record fields { numbers = fields.numbers ++ numbers }

one_more : (fields : Fields) (v : ℕ) (vs : List ℕ) → with_numbers (with_number v fields) vs ≡ with_numbers fields (v ∷ vs)
one_more fields v vs = rw (append_assoc fields.numbers (v ∷ []) vs) refl

AtTake : ℕ → Type 0
AtTake sign = (form numbers : List ℕ) (fields : Fields) → is_form form ≡ true → goes_on sign form ≡ true → fits_form (sign ∷ form) numbers ≡ true → ((others : List ℕ) (so_far : Fields) → fits_form form others ≡ true → takes_from form so_far (pieces form others) ≡ Some (with_numbers so_far others)) → takes_from (sign ∷ form) fields (pieces (sign ∷ form) numbers) ≡ Some (with_numbers fields numbers)

take_r : AtTake r
unfolding AtTake takes_from takes_sign takes_at_word pieces number_parts
take_r form [] fields is goes fits further = absurd (false≢true fits)
take_r form (v ∷ vs) fields is goes fits further =
    let h = below_and v 16 (fits_form form vs) fits in
    rw (register_again v h.0, further vs (with_number v fields) h.1, one_more fields v vs) refl

take_n : AtTake n
unfolding AtTake takes_from takes_sign takes_at_word pieces number_parts
take_n form [] fields is goes fits further = absurd (false≢true fits)
take_n form (v ∷ vs) fields is goes fits further =
    let h = below_and v (2 ^ 32) (fits_form form vs) fits in
    rw (decimal_again v h.0, further vs (with_number v fields) h.1, one_more fields v vs) refl

take_x : AtTake x
unfolding AtTake takes_from takes_sign takes_at_word pieces number_parts
take_x form [] fields is goes fits further = absurd (false≢true fits)
take_x form (v ∷ vs) fields is goes fits further =
    let h = below_and v (2 ^ 32) (fits_form form vs) fits in
    rw (word_again v h.0, further vs (with_number v fields) h.1, one_more fields v vs) refl

take_k : AtTake k
unfolding AtTake takes_from takes_sign takes_at_word pieces number_parts
take_k form [] fields is goes fits further = absurd (false≢true fits)
take_k form (v ∷ vs) fields is goes fits further =
    let h = below_and v 4 (fits_form form vs) fits in
    rw (shift_again v h.0, further vs (with_number v fields) h.1, one_more fields v vs) refl

brace_pieces : (form numbers : List ℕ) → begins_with 125 form ≡ true → pieces form numbers ≡ Mark 125 ∷ pieces (drop 1 form) numbers
unfolding pieces sign_parts
brace_pieces [] numbers h = absurd (false≢true h)
brace_pieces (sign ∷ form) numbers h = subst (λ s. pieces (s ∷ form) numbers ≡ Mark 125 ∷ pieces form numbers) (same sign 125 h) refl

takes_list : (fields : Fields) (registers : List ℕ) (v : ℕ) (found rest : List Part) → found ≡ Mark 125 ∷ rest → registers_in (list_parts registers) ≡ Some v → takes_registers fields (list_parts registers ++ found) ≡ Some (took fields found v)
takes_list fields registers v found rest e h = rw (e, before_brace registers rest, from_brace registers rest, h) refl

take_b : AtTake b
unfolding AtTake takes_from takes_sign pieces number_parts
take_b form [] fields is goes fits further = absurd (false≢true fits)
take_b form (v ∷ vs) fields is goes fits further =
    let some : 0 < v = grind (arith, nat_tests, fits) in
    let small : v < 2 ^ 16 = grind (arith, nat_tests, fits) in
    let h : fits_form form vs ≡ true = grind (arith, fits) in
    rw (
      takes_list fields (registers_of v) v (pieces form vs) (pieces (drop 1 form) vs) (brace_pieces form vs goes) (list_again v some small),
      further vs (with_number v fields) h,
      one_more fields v vs,
    ) refl

take_X : AtTake X
unfolding AtTake takes_from takes_sign takes_at_word pieces sign_parts
take_X form numbers fields is goes fits further = further numbers fields (fits_behind X form numbers refl fits)

take_O : AtTake O
unfolding AtTake takes_from takes_sign takes_at_word pieces sign_parts
take_O form numbers fields is goes fits further = further numbers fields (fits_behind O form numbers refl fits)

take_L : AtTake L
unfolding AtTake takes_from takes_sign takes_at_word pieces sign_parts
take_L form numbers fields is goes fits further = further numbers fields (fits_behind L form numbers refl fits)

take_H : AtTake H
unfolding AtTake takes_from takes_sign takes_at_word pieces sign_parts
take_H form numbers fields is goes fits further = further numbers fields (fits_behind H form numbers refl fits)

mark_takes : (code : ℕ) (fields : Fields) (v : ℕ) (found : List Part) → v < 2 → first_is code found ≡ false → takes_or_not code fields (mark_parts code v ++ found) ≡ Some (took fields found v)
mark_takes code fields zero [] h free = refl
mark_takes code fields zero (Word text ∷ found) h free = refl
mark_takes code fields zero (Mark mark ∷ found) h free = rw free refl
mark_takes code fields (suc zero) found h free = rw (eq-eqb code code refl) refl
mark_takes code fields (suc (suc v)) found h free = absurd (omega (arith, h))

take_dash : AtTake 126
unfolding AtTake takes_from takes_sign pieces number_parts
take_dash form [] fields is goes fits further = absurd (false≢true fits)
take_dash form (v ∷ vs) fields is goes fits further =
    let h = below_and v 2 (fits_form form vs) fits in
    rw (
      mark_takes 45 fields v (pieces form vs) h.0 (not_first 45 form vs is (not_false (may_begin 45 form) goes) h.1),
      further vs (with_number v fields) h.1,
      one_more fields v vs,
    ) refl

take_bang : AtTake 33
unfolding AtTake takes_from takes_sign pieces number_parts
take_bang form [] fields is goes fits further = absurd (false≢true fits)
take_bang form (v ∷ vs) fields is goes fits further =
    let h = below_and v 2 (fits_form form vs) fits in
    rw (
      mark_takes 33 fields v (pieces form vs) h.0 (not_first 33 form vs is (not_false (may_begin 33 form) goes) h.1),
      further vs (with_number v fields) h.1,
      one_more fields v vs,
    ) refl

plain_takes : (code : ℕ) (fields : Fields) (blank : Bool) (found : List Part) → is_plain code ≡ true → is_blank code ≡ blank → takes_sign code fields ((if blank then [] else Mark code ∷ []) ++ found) ≡ Some (passed fields found)
unfolding takes_sign
plain_takes code fields true found plain e =
    let no = plain_no_mark code plain in
    rw (no.0, no.1, plain_no_list code plain, e) refl
plain_takes code fields false found plain e =
    let no = plain_no_mark code plain in
    rw (no.0, no.1, plain_no_list code plain, e, eq-eqb code code refl) refl

take_plain : (code : ℕ) → is_plain code ≡ true → AtTake code
unfolding AtTake takes_from pieces
take_plain code plain form numbers fields is goes fits further =
    let none = plain_has_none code plain in
    rw (none, plain_parts code plain, plain_takes code fields (is_blank code) (pieces form numbers) plain refl)
    (further numbers fields (fits_behind code form numbers none fits))

nothing_more : (fields : Fields) → fields ≡ with_numbers fields []
nothing_more fields = rw (append-nil fields.numbers) refl

pub takes_pieces : (form numbers : List ℕ) (fields : Fields) → is_form form ≡ true → fits_form form numbers ≡ true → takes_from form fields (pieces form numbers) ≡ Some (with_numbers fields numbers)
unfolding AtTake takes_from pieces
takes_pieces [] [] fields is fits = ap Some (nothing_more fields)
takes_pieces [] (v ∷ vs) fields is fits = absurd (false≢true fits)
takes_pieces (sign ∷ form) numbers fields is fits =
    let of = by_sign sign form is in
    each_sign AtTake take_r take_n take_x take_k take_b take_X take_O take_L take_H take_dash take_bang take_plain sign of.0
    form numbers fields of.2 of.1 fits (λ others so_far h. takes_pieces form others so_far of.2 h)

-- the parts of operands as they are shown, with nothing behind them
pub parts_alone : (form numbers : List ℕ) → is_form form ≡ true → fits_form form numbers ≡ true → parts (written form numbers) ≡ pieces form numbers
unfolding parts
parts_alone form numbers is fits = rw (← append-nil (written form numbers), parts_written form numbers [] is fits refl) (append-nil (pieces form numbers))

pub again : (form numbers : List ℕ) → is_form form ≡ true → fits_form form numbers ≡ true → takes form (parts (written form numbers)) ≡ Some (record { numbers = numbers; name = [] })
again form numbers is fits = rw (parts_alone form numbers is fits) (takes_pieces form numbers no_fields is fits)
