-- How much room a form takes at most.
use Rattle.std.proofs.Common.{◌≡◌, ℕ, ◌+◌, ◌≤◌, ◌==◌, not, Bool, true, false, cond, List, [], ◌∷◌, ◌++◌, length, refl, ap, arith, codes, length-append}
use Rattle.std.specs.Prelude.{filter, if◌then◌else◌}
use Rattle.std.proofs.lemmas.Bool.Decides.{nat_tests}
use Rattle.number_text.proofs.Lengths.{short_decimal, word_length}
use Rattle.a32_instr.specs.Block.{is_listed, registers_of}
use Rattle.a32_forms.specs.Names.{register_name}
use Rattle.a32_forms.specs.Registers.{list_text}
use Rattle.a32_forms.specs.Forms.{b, k, n, r, x, H, L, O, X}
use Rattle.a32_forms.specs.Written.{has_number, number_text, sign_text, written, mark_text}
use Rattle.a32_forms.specs.Fits.{fits_form, fits_sign, sign_room, form_room}
use Rattle.a32_forms.proofs.NamesAgain.{register_room, shift_room}
use Rattle.a32_forms.proofs.ListsAgain.{up, listed}
use Rattle.a32_forms.proofs.EachSign.{or_other, both, not_false}

-- A list has a comma and a space before each register but the first.

items_room : List ℕ → ℕ
items_room [] = 0
items_room (register ∷ registers) = 2 + length (register_name register) + items_room registers

list_length : (register : ℕ) (registers : List ℕ) → length (list_text (register ∷ registers)) + 2 ≡ items_room (register ∷ registers)
unfolding list_text items_room
list_length register [] = omega arith
list_length register (next ∷ registers) =
    let others = list_length next registers in
    let l = length-append (register_name register) (codes ", " ++ list_text (next ∷ registers)) in
    omega (arith, others, l)

cond_room : (test : Bool) (register : ℕ) (some all : List ℕ) → items_room some ≤ items_room all → items_room (cond test (register ∷ some) some) ≤ items_room (register ∷ all)
unfolding items_room
cond_room true register some all h = omega (arith, h)
cond_room false register some all h = omega (arith, h)

filter_room : (p : ℕ → Bool) (registers : List ℕ) → items_room (filter p registers) ≤ items_room registers
unfolding items_room
filter_room p [] = omega arith
filter_room p (register ∷ registers) = cond_room (p register) register (filter p registers) registers (filter_room p registers)

all_room : items_room (up 16 0) ≡ 67
unfolding items_room up
all_room = refl

list_room_by : (registers : List ℕ) → items_room registers ≤ 67 → length (list_text registers) ≤ 65
unfolding list_text
list_room_by [] h = omega arith
list_room_by (register ∷ registers) h = omega (arith, h, list_length register registers)

pub list_room : (v : ℕ) → length (list_text (registers_of v)) ≤ 65
list_room v = rw (listed v) (list_room_by (filter (is_listed v) (up 16 0)) (omega (arith, filter_room (is_listed v) (up 16 0), all_room)))

-- What each sign takes.

sign_some : (sign : ℕ) → 1 ≤ sign_room sign
sign_some sign = grind (arith, nat_tests)

mark_room : (code number : ℕ) → length (mark_text code number) ≤ 1
mark_room code number = grind (arith, nat_tests)

AtNumber : ℕ → ℕ → Type 0
AtNumber v sign = fits_sign sign v ≡ true → length (number_text sign v) ≤ sign_room sign

room_r : (v : ℕ) → AtNumber v r
unfolding AtNumber number_text
room_r v fits = register_room v (grind (arith, nat_tests, fits))

room_n : (v : ℕ) → AtNumber v n
unfolding AtNumber number_text
room_n v fits = short_decimal v (grind (arith, nat_tests, fits))

room_x : (v : ℕ) → AtNumber v x
unfolding AtNumber number_text
room_x v fits = omega (arith, word_length v)

room_k : (v : ℕ) → AtNumber v k
unfolding AtNumber number_text
room_k v fits = shift_room v (grind (arith, nat_tests, fits))

room_b : (v : ℕ) → AtNumber v b
unfolding AtNumber number_text
room_b v fits = list_room v

either_mark : (test : Bool) (v : ℕ) → length (if test then mark_text 45 v else mark_text 33 v) ≤ 1
either_mark true v = mark_room 45 v
either_mark false v = mark_room 33 v

other_number : (sign v : ℕ) → (sign == r) ≡ false → (sign == n) ≡ false → (sign == x) ≡ false → (sign == k) ≡ false → (sign == b) ≡ false → number_text sign v ≡ (if sign == 126 then mark_text 45 v else mark_text 33 v)
unfolding number_text
other_number sign v e_r e_n e_x e_k e_b = rw (e_r, e_n, e_x, e_k, e_b) refl

pub number_room : (sign v : ℕ) → fits_sign sign v ≡ true → length (number_text sign v) ≤ sign_room sign
unfolding AtNumber
number_room sign v =
    or_other (AtNumber v) sign r (room_r v) (λ e_r. or_other (AtNumber v) sign n (room_n v) (λ e_n. or_other (AtNumber v) sign x (room_x v) (λ e_x.
    or_other (AtNumber v) sign k (room_k v) (λ e_k. or_other (AtNumber v) sign b (room_b v) (λ e_b fits.
    omega (arith, ap length (other_number sign v e_r e_n e_x e_k e_b), either_mark (sign == 126) v, sign_some sign))))))

AtText : ℕ → Type 0
AtText sign = length (sign_text sign) ≤ sign_room sign

other_text : (sign : ℕ) → (sign == X) ≡ false → (sign == O) ≡ false → (sign == L) ≡ false → (sign == H) ≡ false → sign_text sign ≡ sign ∷ []
unfolding sign_text
other_text sign e_X e_O e_L e_H = rw (e_X, e_O, e_L, e_H) refl

pub text_room : (sign : ℕ) → length (sign_text sign) ≤ sign_room sign
unfolding AtText sign_text
text_room sign =
    or_other AtText sign X (omega arith) (λ e_X. or_other AtText sign O (omega arith) (λ e_O. or_other AtText sign L (omega arith) (λ e_L.
    or_other AtText sign H (omega arith) (λ e_H. omega (arith, ap length (other_text sign e_X e_O e_L e_H), sign_some sign)))))

-- What a form takes.

step_room : (sign : ℕ) (form text further : List ℕ) → length text ≤ sign_room sign → length further ≤ form_room form → length (text ++ further) ≤ form_room (sign ∷ form)
step_room sign form text further h k = omega (arith, h, k, length-append text further)

number_step : (test : Bool) (sign v : ℕ) (form numbers : List ℕ) → has_number sign ≡ test → fits_form (sign ∷ form) (v ∷ numbers) ≡ true → ((others : List ℕ) → fits_form form others ≡ true → length (written form others) ≤ form_room form) → length (written (sign ∷ form) (v ∷ numbers)) ≤ form_room (sign ∷ form)
unfolding written
number_step true sign v form numbers e fits further =
    let h = both (fits_sign sign v) (fits_form form numbers) (rw e at fits) in
    rw e (step_room sign form (number_text sign v) (written form numbers) (number_room sign v h.0) (further numbers h.1))
number_step false sign v form numbers e fits further =
    rw e (step_room sign form (sign_text sign) (written form (v ∷ numbers)) (text_room sign) (further (v ∷ numbers) (rw e at fits)))

pub written_room : (form numbers : List ℕ) → fits_form form numbers ≡ true → length (written form numbers) ≤ form_room form
unfolding written
written_room [] numbers fits = omega arith
written_room (sign ∷ form) [] fits =
    let h = both (not (has_number sign)) (fits_form form []) fits in
    rw (not_false (has_number sign) h.0) (step_room sign form (sign_text sign) (written form []) (text_room sign) (written_room form [] h.1))
written_room (sign ∷ form) (v ∷ numbers) fits =
    number_step (has_number sign) sign v form numbers refl fits (λ others h. written_room form others h)
