-- What a form of a table shows is read again as that form.
use Rattle.std.proofs.Common.{◌≡◌, ℕ, zero, suc, ◌+◌, ◌<◌, ◌&&◌, true, Option, Some, List, [], ◌∷◌, length, take, slice_index_or, ap, ◌∙◌, arith}
use Rattle.std.specs.List.{list_all}
use Rattle.a32_forms.specs.Text.{parts}
use Rattle.a32_forms.specs.Forms.{no_fields, Chosen, chosen_from, chosen, forms_in, form_in}
use Rattle.a32_forms.specs.Written.{written}
use Rattle.a32_forms.specs.Fits.{fits_form}
use Rattle.a32_forms.specs.Shown.{pieces, is_form}
use Rattle.a32_forms.specs.Apart.{is_apart, stands}
use Rattle.a32_forms.proofs.EachSign.{both, below_and}
use Rattle.a32_forms.proofs.Again.{takes_pieces, parts_alone}
use Rattle.a32_forms.proofs.FormsApart.{apart_takes_none}

-- a form that was chosen, with its numbers
abbrev with_form : ℕ → List ℕ → Option Chosen
with_form form numbers = Some (record { form = form; fields = record { numbers = numbers; name = [] } })

chosen_at : (forms : List (List ℕ)) (at from : ℕ) (numbers : List ℕ) → at < length forms → is_form (slice_index_or forms at []) ≡ true → fits_form (slice_index_or forms at []) numbers ≡ true → list_all (is_apart (slice_index_or forms at [])) (take at forms) ≡ true → chosen_from from forms (pieces (slice_index_or forms at []) numbers) ≡ with_form (from + at) numbers
unfolding chosen_from
chosen_at [] at from numbers h is fits apart = absurd (omega (arith, h))
chosen_at (form ∷ forms) zero from numbers h is fits apart =
    rw (takes_pieces form numbers no_fields is fits) (ap (λ place. with_form place numbers) (omega arith))
chosen_at (form ∷ forms) (suc at) from numbers h is fits apart =
    let shown = slice_index_or forms at [] in
    let each = both (is_apart shown form) (list_all (is_apart shown) (take at forms)) apart in
    rw (apart_takes_none shown form numbers no_fields is fits each.0)
    (chosen_at forms at (from + 1) numbers (omega (arith, h)) is fits each.1 ∙ ap (λ place. with_form place numbers) (omega arith))

pub chosen_again : (forms : List ℕ) (at : ℕ) (numbers : List ℕ) → stands forms at ≡ true → fits_form (form_in forms at) numbers ≡ true → chosen forms (parts (written (form_in forms at) numbers)) ≡ Some (record { form = at; fields = record { numbers = numbers; name = [] } })
chosen_again forms at numbers h fits =
    let inside = below_and at (length (forms_in forms)) (is_form (form_in forms at) && list_all (is_apart (form_in forms at)) (take at (forms_in forms))) h in
    let form = both (is_form (form_in forms at)) (list_all (is_apart (form_in forms at)) (take at (forms_in forms))) inside.1 in
    rw (parts_alone (form_in forms at) numbers form.0 fits)
    (chosen_at (forms_in forms) at 0 numbers inside.0 form.0 fits form.1 ∙ ap (λ place. with_form place numbers) (omega arith))
