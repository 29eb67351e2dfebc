-- A form that is written sign by sign.
use Rattle.std.proofs.Common.{◌≡◌, ℕ, ◌+◌, ◌<◌, ◌≤◌, true, false, List, [], ◌∷◌, ◌++◌, length, drop, slice_index_or, refl, sym, subst, ◌∙◌, arith, append_assoc, append-nil, length-append, length-drop}
use Rattle.std.proofs.lemmas.List.{drop_more}
use Rattle.std.proofs.lemmas.Bool.{false≢true}
use Rattle.a32_forms.specs.Written.{has_number, number_text, sign_text, written}
use Rattle.a32_forms.specs.Fits.{fits_form, fits_sign, form_room}
use Rattle.a32_forms.proofs.EachSign.{both, fits_behind}
use Rattle.a32_forms.proofs.FormRooms.{number_room, text_room}

-- what is left of a form when a line has the rest of it
pub record Left (line form numbers whole : List ℕ) : Type 0 where
  pub text : line ++ written form numbers ≡ whole
  pub fits : fits_form form numbers ≡ true
  pub room : length line + form_room form ≤ 96

-- a sign without a number
pub plain_turn : (line : List ℕ) (sign : ℕ) (form numbers whole : List ℕ) → has_number sign ≡ false → Left line (sign ∷ form) numbers whole → (length line + length (sign_text sign) ≤ 96) × Left (line ++ sign_text sign) form numbers whole
unfolding written
plain_turn line sign form numbers whole none left =
    let room = text_room sign in
    let size = length-append line (sign_text sign) in
    let text = rw none at left.text in (
      omega (arith, left.room, room),
      record {
        text = append_assoc line (sign_text sign) (written form numbers) ∙ text;
        fits = fits_behind sign form numbers none left.fits;
        room = omega (arith, left.room, room, size);
      },
    )

-- a sign with a number
pub number_turn : (line : List ℕ) (sign : ℕ) (form numbers whole : List ℕ) → has_number sign ≡ true → Left line (sign ∷ form) numbers whole → (0 < length numbers) × (fits_sign sign (slice_index_or numbers 0 0) ≡ true) × (length line + length (number_text sign (slice_index_or numbers 0 0)) ≤ 96) × Left (line ++ number_text sign (slice_index_or numbers 0 0)) form (drop 1 numbers) whole
unfolding written
number_turn line sign form [] whole some left = absurd (false≢true (rw some at left.fits))
number_turn line sign form (number ∷ numbers) whole some left =
    let fits = both (fits_sign sign number) (fits_form form numbers) (rw some at left.fits) in
    let room = number_room sign number fits.0 in
    let size = length-append line (number_text sign number) in
    let text = rw some at left.text in (
      omega arith,
      fits.0,
      omega (arith, left.room, room),
      record {
        text = append_assoc line (number_text sign number) (written form numbers) ∙ text;
        fits = fits.1;
        room = omega (arith, left.room, room, size);
      },
    )

-- the same at a place of the form and of the numbers

pub plain_at : (line form numbers whole : List ℕ) (i at : ℕ) → i < length form → has_number (slice_index_or form i 0) ≡ false → Left line (drop i form) (drop at numbers) whole → (length line + length (sign_text (slice_index_or form i 0)) ≤ 96) × Left (line ++ sign_text (slice_index_or form i 0)) (drop (i + 1) form) (drop at numbers) whole
plain_at line form numbers whole i at h none left =
    plain_turn line (slice_index_or form i 0) (drop (i + 1) form) (drop at numbers) whole none (subst (λ f. Left line f (drop at numbers) whole) (drop_more form i 0 h) left)

pub number_at : (line form numbers whole : List ℕ) (i at : ℕ) → i < length form → has_number (slice_index_or form i 0) ≡ true → Left line (drop i form) (drop at numbers) whole → (at < length numbers) × (fits_sign (slice_index_or form i 0) (slice_index_or numbers at 0) ≡ true) × (length line + length (number_text (slice_index_or form i 0) (slice_index_or numbers at 0)) ≤ 96) × Left (line ++ number_text (slice_index_or form i 0) (slice_index_or numbers at 0)) (drop (i + 1) form) (drop (at + 1) numbers) whole
number_at line form numbers whole i at h some left =
    let sign = slice_index_or form i 0 in
    let here : Left line (sign ∷ drop (i + 1) form) (drop at numbers) whole = subst (λ f. Left line f (drop at numbers) whole) (drop_more form i 0 h) left in
    let any = number_turn line sign (drop (i + 1) form) (drop at numbers) whole some here in
    let more : at < length numbers = omega (arith, any.0, length-drop at numbers) in
    let turn = number_turn line sign (drop (i + 1) form) (slice_index_or numbers at 0 ∷ drop (at + 1) numbers) whole some (subst (λ n. Left line (sign ∷ drop (i + 1) form) n whole) (drop_more numbers at 0 more) here) in
    (more, turn.1, turn.2, turn.3)

empty_by : (form : List ℕ) → length form ≡ 0 → form ≡ []
empty_by [] h = refl
empty_by (sign ∷ form) h = absurd (omega (arith, h))

-- nothing is left behind the last sign
pub all_written : (line form numbers whole : List ℕ) (i at : ℕ) → length form ≤ i → Left line (drop i form) (drop at numbers) whole → line ≡ whole
unfolding written
all_written line form numbers whole i at h left =
    let none = empty_by (drop i form) (omega (arith, h, length-drop i form)) in
    let end = subst (λ f. Left line f (drop at numbers) whole) none left in
    sym (append-nil line) ∙ end.text
