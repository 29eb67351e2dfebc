-- The signs of forms, case by case.
use Rattle.std.proofs.Common.{◌≡◌, ℕ, Bool, true, false, List, [], ◌∷◌, refl, sym, subst, eqb, ◌||◌, ◌&&◌, ◌∙◌, ◌<◌, arith}
use Rattle.std.specs.Prelude.{if◌then◌else◌, nat_lt, not}
use Rattle.std.proofs.lemmas.Bool.{false≢true}
use Rattle.std.proofs.lemmas.Bool.Decides.{nat_tests}
use Rattle.a32_forms.specs.Text.{Mark, is_wordy, is_blank}
use Rattle.a32_forms.specs.Forms.{b, k, n, r, x, H, L, O, X}
use Rattle.a32_forms.specs.Written.{has_number, sign_text}
use Rattle.a32_forms.specs.Shown.{is_plain, is_sign, is_form, goes_on, sign_parts}
use Rattle.a32_forms.specs.Fits.{fits_form}

pub same : (sign code : ℕ) → eqb sign code ≡ true → code ≡ sign
same sign code h = grind (arith, nat_tests, h)

by_test : (P : ℕ → Type 0) (sign code : ℕ) (test : Bool) → eqb sign code ≡ test → P code → (eqb sign code ≡ false → P sign) → P sign
by_test P sign code true e here other = subst P (same sign code e) here
by_test P sign code false e here other = other e

-- this sign, or another one
pub or_other : (P : ℕ → Type 0) (sign code : ℕ) → P code → (eqb sign code ≡ false → P sign) → P sign
or_other P sign code here other = by_test P sign code (eqb sign code) refl here other

left : {a b : Bool} → b ≡ false → (a || b) ≡ true → a ≡ true
left {a = true} e h = refl
left {a = false} e h = sym e ∙ h

-- what holds of each sign that can be shown
pub each_sign : (P : ℕ → Type 0) → P r → P n → P x → P k → P b → P X → P O → P L → P H → P 126 → P 33 → ((code : ℕ) → is_plain code ≡ true → P code) → (sign : ℕ) → is_sign sign ≡ true → P sign
each_sign P at_r at_n at_x at_k at_b at_X at_O at_L at_H at_dash at_bang at_plain sign h =
    or_other P sign r at_r (λ e_r. or_other P sign n at_n (λ e_n. or_other P sign x at_x (λ e_x. or_other P sign k at_k (λ e_k. or_other P sign b at_b (λ e_b.
    or_other P sign X at_X (λ e_X. or_other P sign O at_O (λ e_O. or_other P sign L at_L (λ e_L. or_other P sign H at_H (λ e_H.
    or_other P sign 126 at_dash (λ e_dash. or_other P sign 33 at_bang (λ e_bang.
    at_plain sign
    (left e_r (left e_n (left e_x (left e_k (left e_b (left e_X (left e_O (left e_L (left e_H (left e_dash (left e_bang h))))))))))))))))))))))

-- a sign that stands for itself has no number
pub plain_has_none : (code : ℕ) → is_plain code ≡ true → has_number code ≡ false
plain_has_none code h = grind (arith, nat_tests, h)

pub plain_text : (code : ℕ) → is_plain code ≡ true → sign_text code ≡ code ∷ []
unfolding sign_text
plain_text code h = grind (arith, nat_tests, h)

pub plain_not_wordy : (code : ℕ) → is_plain code ≡ true → is_wordy code ≡ false
plain_not_wordy code h = grind (arith, nat_tests, h)

pub plain_no_mark : (code : ℕ) → is_plain code ≡ true → (eqb code 126 ≡ false) × (eqb code 33 ≡ false)
plain_no_mark code h = (grind (arith, nat_tests, h), grind (arith, nat_tests, h))

pub plain_no_list : (code : ℕ) → is_plain code ≡ true → eqb code b ≡ false
plain_no_list code h = grind (arith, nat_tests, h)

pub plain_parts : (code : ℕ) → is_plain code ≡ true → sign_parts code ≡ (if is_blank code then [] else Mark code ∷ [])
unfolding sign_parts
plain_parts code h = grind (arith, nat_tests, h)

-- what fits a form fits what stands behind its first sign

pub fits_behind : (sign : ℕ) (form numbers : List ℕ) → has_number sign ≡ false → fits_form (sign ∷ form) numbers ≡ true → fits_form form numbers ≡ true
fits_behind sign form [] none h = rw none at h
fits_behind sign form (number ∷ numbers) none h = rw none at h

pub both : (a b : Bool) → (a && b) ≡ true → (a ≡ true) × (b ≡ true)
both true b h = (refl, h)
both false b h = absurd (false≢true h)

pub not_false : (test : Bool) → not test ≡ true → test ≡ false
not_false true h = absurd (false≢true h)
not_false false h = refl

pub below_and : (number bound : ℕ) (further : Bool) → (nat_lt number bound && further) ≡ true → (number < bound) × (further ≡ true)
below_and number bound true h = (grind (arith, nat_tests, h), refl)
below_and number bound false h = absurd (grind (arith, nat_tests, h))

-- what a form says of its first sign, of what stands behind it, and of the rest
pub by_sign : (sign : ℕ) (form : List ℕ) → is_form (sign ∷ form) ≡ true → (is_sign sign ≡ true) × (goes_on sign form ≡ true) × (is_form form ≡ true)
by_sign sign form h =
    let first = both (is_sign sign) (goes_on sign form && is_form form) h in
    let others = both (goes_on sign form) (is_form form) first.1 in
    (first.0, others.0, others.1)
