-- Which numbers a form can show, and how much room it takes at most.
use Rattle.std.specs.Prelude.{ℕ, ◌+◌, ◌^◌, ◌==◌, ◌&&◌, ◌||◌, not, nat_lt, if◌then◌else◌, Bool, true, false, List, [], ◌∷◌}
use Rattle.a32_forms.specs.Forms.{b, k, n, r, x, H, L, O, X}
use Rattle.a32_forms.specs.Written.{has_number}

-- a number that a sign can show; a list has one register at least
abbrev pub fits_sign : ℕ → ℕ → Bool
fits_sign sign number =
    if sign == r then nat_lt number 16 else
    if (sign == n) || (sign == x) then nat_lt number (2 ^ 32) else
    if sign == k then nat_lt number 4 else
    if sign == b then nat_lt 0 number && nat_lt number (2 ^ 16) else
    nat_lt number 2

-- a number for each sign that has one, which that sign can show
abbrev pub fits_form : List ℕ → List ℕ → Bool
fits_form [] [] = true
fits_form [] (number ∷ numbers) = false
fits_form (sign ∷ form) [] = not (has_number sign) && fits_form form []
fits_form (sign ∷ form) (number ∷ numbers) =
    if has_number sign
    then fits_sign sign number && fits_form form numbers
    else fits_form form (number ∷ numbers)

-- how many bytes a sign takes at most: a list has them for `r0, r1, r2, r3, r4, r5, r6, r7, r8, r9, r10, r11, r12, sp, lr, pc`
abbrev pub sign_room : ℕ → ℕ
sign_room sign =
    if (sign == r) || (sign == k) || (sign == X) || (sign == O) then 3 else
    if (sign == n) || (sign == x) then 10 else
    if sign == b then 65 else
    if (sign == L) || (sign == H) then 2 else
    1

abbrev pub form_room : List ℕ → ℕ
form_room [] = 0
form_room (sign ∷ form) = sign_room sign + form_room form
