-- Tables of forms of which each is read again, and not an earlier one in its place.
use Rattle.std.specs.Prelude.{ℕ, ◌==◌, ◌&&◌, ◌||◌, not, nat_lt, if◌then◌else◌, Bool, true, false, List, [], ◌∷◌, length, take, Option, Some, None}
use Rattle.std.specs.List.{list_all}
use Rattle.a32_forms.specs.Text.{is_blank, is_wordy, exclamation, minus, tilde}
use Rattle.a32_forms.specs.Forms.{b, k, X, forms_in, form_in}
use Rattle.a32_forms.specs.Shown.{is_form}

-- a sign that may take no part
abbrev pub may_pass : ℕ → Bool
may_pass sign = (sign == tilde) || (sign == exclamation) || is_blank sign

-- a sign that may take a word as another one shows it: no kind of shift is `rrx`
abbrev pub may_be : ℕ → ℕ → Bool
may_be shown sign = is_wordy sign && (not ((shown == X) && (sign == k)) && not ((shown == k) && (sign == X)))

-- what is left of a form that takes a mark, where it can
abbrev pub after_mark : ℕ → List ℕ → Option (List ℕ)
after_mark mark [] = None
after_mark mark (sign ∷ form) =
    if sign == tilde then (if mark == minus then Some form else after_mark mark form) else
    if sign == exclamation then (if mark == exclamation then Some form else after_mark mark form) else
    if is_blank sign then after_mark mark form else
    if mark == sign then Some form else
    None

-- what is left of a form that takes a word as a sign shows it, where it may
abbrev pub after_shown : ℕ → List ℕ → Option (List ℕ)
after_shown shown [] = None
after_shown shown (sign ∷ form) =
    if may_pass sign then after_shown shown form else
    if may_be shown sign then Some form else
    None

abbrev pub and_may : (List ℕ → Bool) → Option (List ℕ) → Bool
and_may further None = false
and_may further (Some form) = further form

-- a form, which has no list, may take all that another one shows
abbrev pub may_take : List ℕ → List ℕ → Bool
may_take form [] = list_all may_pass form
may_take form (sign ∷ shown) =
    if sign == tilde then may_take form shown || and_may (λ left. may_take left shown) (after_mark minus form) else
    if sign == exclamation then may_take form shown || and_may (λ left. may_take left shown) (after_mark exclamation form) else
    if sign == b then true else
    if is_blank sign then may_take form shown else
    if is_wordy sign then and_may (λ left. may_take left shown) (after_shown sign form) else
    and_may (λ left. may_take left shown) (after_mark sign form)

-- a form without a list, which can't take all that another one shows
abbrev pub is_apart : List ℕ → List ℕ → Bool
is_apart shown form = list_all (λ sign. not (sign == b)) form && not (may_take form shown)

-- the form at a place of a table is read again: no earlier one takes what it shows
abbrev pub stands : List ℕ → ℕ → Bool
stands forms at =
    nat_lt at (length (forms_in forms)) && (is_form (form_in forms at) && list_all (is_apart (form_in forms at)) (take at (forms_in forms)))
