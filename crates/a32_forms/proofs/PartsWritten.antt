-- The parts of a form as it is shown.
use Rattle.std.proofs.Common.{◌≡◌, ℕ, zero, suc, ◌^◌, ◌==◌, not, Bool, true, false, List, [], ◌∷◌, ◌++◌, drop, slice_index_or, refl, arith, codes, append_assoc}
use Rattle.std.specs.Prelude.{if◌then◌else◌}
use Rattle.std.specs.Fmt.{decimal}
use Rattle.std.proofs.Math.Dec.{eqb-suc-zero}
use Rattle.std.proofs.lemmas.Bool.{false≢true}
use Rattle.std.proofs.lemmas.Bool.Decides.{nat_tests}
use Rattle.number_text.specs.Hexadecimal.{word_text}
use Rattle.a32_instr.specs.Block.{registers_of}
use Rattle.a32_forms.specs.Text.{Part, Word, Mark, is_wordy, is_blank, begins_wordy, parts}
use Rattle.a32_forms.specs.Names.{register_name, shift_name}
use Rattle.a32_forms.specs.Registers.{list_text}
use Rattle.a32_forms.specs.Forms.{b, k, n, r, x, H, L, O, X}
use Rattle.a32_forms.specs.Written.{number_text, sign_text, written, mark_text}
use Rattle.a32_forms.specs.Fits.{fits_form}
use Rattle.a32_forms.specs.Shown.{list_parts, mark_parts, number_parts, sign_parts, pieces, is_plain, begins_apart, begins_with, goes_on, is_form}
use Rattle.a32_forms.proofs.WordParts.{is_word, parts_word, register_is_word, shift_is_word, decimal_is_word, word_is_word}
use Rattle.a32_forms.proofs.ListsAgain.{parts_list, list_small}
use Rattle.a32_forms.proofs.EachSign.{or_other, each_sign, plain_has_none, plain_text, plain_not_wordy, plain_parts, fits_behind, below_and, by_sign}

-- a mark that may be left out

mark_apart : (code number : ℕ) (text rest : List ℕ) → is_wordy code ≡ false → begins_wordy (text ++ rest) ≡ false → begins_wordy ((mark_text code number ++ text) ++ rest) ≡ false
mark_apart code zero text rest e h = h
mark_apart code (suc number) text rest e h = rw (eqb-suc-zero number) e

mark_step : (code number : ℕ) (text rest : List ℕ) (found : List Part) → is_wordy code ≡ false → is_blank code ≡ false → parts (text ++ rest) ≡ found ++ parts rest → parts ((mark_text code number ++ text) ++ rest) ≡ (mark_parts code number ++ found) ++ parts rest
unfolding parts
mark_step code zero text rest found e f h = h
mark_step code (suc number) text rest found e f h = rw (eqb-suc-zero number, e, f, h) refl

-- the text of a form that begins apart begins with no word

AtApart : List ℕ → List ℕ → List ℕ → ℕ → Type 0
AtApart form numbers rest sign = begins_apart (sign ∷ form) ≡ true → begins_wordy (written (sign ∷ form) numbers ++ rest) ≡ false

plain_by : (sign : ℕ) → (sign == 126) ≡ false → (sign == 33) ≡ false → is_wordy sign ≡ false → is_plain sign ≡ true
plain_by sign e f g = rw (e, f, g) refl

other_apart : (form numbers rest : List ℕ) (sign : ℕ) → (sign == 126) ≡ false → (sign == 33) ≡ false → AtApart form numbers rest sign
unfolding AtApart written
other_apart form numbers rest sign e f h =
    let h2 : not (is_wordy sign) ≡ true = rw (e, f) at h in
    let g : is_wordy sign ≡ false = grind (arith, h2) in
    let plain = plain_by sign e f g in
    rw (plain_has_none sign plain, plain_text sign plain) g

text_apart : (form numbers rest : List ℕ) → begins_apart form ≡ true → begins_wordy rest ≡ false → begins_wordy (written form numbers ++ rest) ≡ false
unfolding AtApart written number_text
text_apart [] numbers rest h ends = ends
text_apart (sign ∷ form) numbers rest h ends =
    or_other (AtApart form numbers rest) sign 126 (λ g. mark_apart 45 (slice_index_or numbers 0 0) (written form (drop 1 numbers)) rest refl (text_apart form (drop 1 numbers) rest g ends))
    (λ e. or_other (AtApart form numbers rest) sign 33 (λ g. mark_apart 33 (slice_index_or numbers 0 0) (written form (drop 1 numbers)) rest refl (text_apart form (drop 1 numbers) rest g ends))
    (λ f. other_apart form numbers rest sign e f)) h

word_step : (word text rest : List ℕ) (found : List Part) → is_word word ≡ true → begins_wordy (text ++ rest) ≡ false → parts (text ++ rest) ≡ found ++ parts rest → parts ((word ++ text) ++ rest) ≡ Word word ∷ (found ++ parts rest)
word_step word text rest found h ends e = rw (append_assoc word text rest, parts_word word (text ++ rest) h ends, e) refl

-- What a step has to show at a sign, from what the rest of the form shows.
AtStep : ℕ → Type 0
AtStep sign = (form numbers rest : List ℕ) → goes_on sign form ≡ true → fits_form (sign ∷ form) numbers ≡ true → begins_wordy rest ≡ false → ((others : List ℕ) → fits_form form others ≡ true → parts (written form others ++ rest) ≡ pieces form others ++ parts rest) → parts (written (sign ∷ form) numbers ++ rest) ≡ pieces (sign ∷ form) numbers ++ parts rest

step_r : AtStep r
unfolding AtStep written number_text pieces number_parts
step_r form [] rest goes fits ends further = absurd (false≢true fits)
step_r form (v ∷ vs) rest goes fits ends further =
    let h = below_and v 16 (fits_form form vs) fits in
    word_step (register_name v) (written form vs) rest (pieces form vs) (register_is_word v h.0) (text_apart form vs rest goes ends) (further vs h.1)

step_n : AtStep n
unfolding AtStep written number_text pieces number_parts
step_n form [] rest goes fits ends further = absurd (false≢true fits)
step_n form (v ∷ vs) rest goes fits ends further =
    let h = below_and v (2 ^ 32) (fits_form form vs) fits in
    word_step (decimal v) (written form vs) rest (pieces form vs) (decimal_is_word v h.0) (text_apart form vs rest goes ends) (further vs h.1)

step_x : AtStep x
unfolding AtStep written number_text pieces number_parts
step_x form [] rest goes fits ends further = absurd (false≢true fits)
step_x form (v ∷ vs) rest goes fits ends further =
    let h = below_and v (2 ^ 32) (fits_form form vs) fits in
    word_step (codes "0x" ++ word_text v) (written form vs) rest (pieces form vs) (word_is_word v h.0) (text_apart form vs rest goes ends) (further vs h.1)

step_k : AtStep k
unfolding AtStep written number_text pieces number_parts
step_k form [] rest goes fits ends further = absurd (false≢true fits)
step_k form (v ∷ vs) rest goes fits ends further =
    let h = below_and v 4 (fits_form form vs) fits in
    word_step (shift_name v) (written form vs) rest (pieces form vs) (shift_is_word v h.0) (text_apart form vs rest goes ends) (further vs h.1)

brace_apart : (form : List ℕ) → begins_with 125 form ≡ true → begins_apart form ≡ true
brace_apart [] h = refl
brace_apart (sign ∷ form) h = grind (arith, nat_tests, h)

step_b : AtStep b
unfolding AtStep written number_text pieces number_parts
step_b form [] rest goes fits ends further = absurd (false≢true fits)
step_b form (v ∷ vs) rest goes fits ends further =
    let h : fits_form form vs ≡ true = grind (arith, fits) in
    let text = written form vs ++ rest in
    let list = registers_of v in
    rw (
      append_assoc (list_text list) (written form vs) rest,
      parts_list list text (list_small v) (text_apart form vs rest (brace_apart form goes) ends),
      further vs h,
      append_assoc (list_parts list) (pieces form vs) (parts rest),
    ) refl

step_X : AtStep X
unfolding AtStep written sign_text pieces sign_parts
step_X form numbers rest goes fits ends further =
    word_step (codes "rrx") (written form numbers) rest (pieces form numbers) refl (text_apart form numbers rest goes ends) (further numbers (fits_behind X form numbers refl fits))

step_O : AtStep O
unfolding AtStep written sign_text pieces sign_parts
step_O form numbers rest goes fits ends further =
    word_step (codes "ror") (written form numbers) rest (pieces form numbers) refl (text_apart form numbers rest goes ends) (further numbers (fits_behind O form numbers refl fits))

step_L : AtStep L
unfolding AtStep written sign_text pieces sign_parts
step_L form numbers rest goes fits ends further =
    word_step (codes "lo") (written form numbers) rest (pieces form numbers) refl (text_apart form numbers rest goes ends) (further numbers (fits_behind L form numbers refl fits))

step_H : AtStep H
unfolding AtStep written sign_text pieces sign_parts
step_H form numbers rest goes fits ends further =
    word_step (codes "hi") (written form numbers) rest (pieces form numbers) refl (text_apart form numbers rest goes ends) (further numbers (fits_behind H form numbers refl fits))

step_dash : AtStep 126
unfolding AtStep written number_text pieces number_parts
step_dash form [] rest goes fits ends further = absurd (false≢true fits)
step_dash form (v ∷ vs) rest goes fits ends further =
    mark_step 45 v (written form vs) rest (pieces form vs) refl refl (further vs (below_and v 2 (fits_form form vs) fits).1)

step_bang : AtStep 33
unfolding AtStep written number_text pieces number_parts
step_bang form [] rest goes fits ends further = absurd (false≢true fits)
step_bang form (v ∷ vs) rest goes fits ends further =
    mark_step 33 v (written form vs) rest (pieces form vs) refl refl (further vs (below_and v 2 (fits_form form vs) fits).1)

plain_step : (code : ℕ) (blank : Bool) (text rest : List ℕ) (found : List Part) → is_wordy code ≡ false → is_blank code ≡ blank → parts (text ++ rest) ≡ found ++ parts rest → parts (code ∷ (text ++ rest)) ≡ ((if blank then [] else Mark code ∷ []) ++ found) ++ parts rest
unfolding parts
plain_step code true text rest found e f h = rw (e, f) h
plain_step code false text rest found e f h = rw (e, f, h) refl

step_plain : (code : ℕ) → is_plain code ≡ true → AtStep code
unfolding AtStep written pieces
step_plain code plain form numbers rest goes fits ends further =
    let none = plain_has_none code plain in
    rw (none, plain_text code plain, plain_parts code plain)
    (plain_step code (is_blank code) (written form numbers) rest (pieces form numbers) (plain_not_wordy code plain) refl (further numbers (fits_behind code form numbers none fits)))

pub parts_written : (form numbers rest : List ℕ) → is_form form ≡ true → fits_form form numbers ≡ true → begins_wordy rest ≡ false → parts (written form numbers ++ rest) ≡ pieces form numbers ++ parts rest
unfolding AtStep written pieces
parts_written [] numbers rest is fits ends = refl
parts_written (sign ∷ form) numbers rest is fits ends =
    let of = by_sign sign form is in
    each_sign AtStep step_r step_n step_x step_k step_b step_X step_O step_L step_H step_dash step_bang step_plain sign of.0
    form numbers rest of.1 fits ends (λ others h. parts_written form others rest of.2 h ends)
