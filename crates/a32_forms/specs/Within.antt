-- The numbers that a form may take: how many they are, and how great each of them is at most.
use Rattle.std.specs.Prelude.{ℕ, ◌+◌, ◌^◌, ◌==◌, ◌&&◌, ◌||◌, nat_le, nat_lt, if◌then◌else◌, Bool, true, List, [], ◌∷◌, count_by, slice_index_or}
use Rattle.std.specs.List.{list_all}
use Rattle.a32_forms.specs.Forms.{b, k, r, forms_in}
use Rattle.a32_forms.specs.Written.{has_number}
use Rattle.a32_forms.specs.Text.{exclamation, tilde}

-- forms whose signs have at most eight numbers each
abbrev pub has_room : List ℕ → Bool
has_room form = nat_le (count_by has_number form) 8

abbrev pub have_room : List ℕ → Bool
have_room forms = list_all has_room (forms_in forms)

-- A number that a sign may take: a number of the text may also be the one that stands for each that is too great.
abbrev pub is_within : ℕ → ℕ → Bool
is_within sign number =
    if sign == r then nat_lt number 16 else
    if sign == k then nat_lt number 4 else
    if sign == b then nat_lt number (2 ^ 16) else
    if (sign == tilde) || (sign == exclamation) then nat_lt number 2 else
    nat_le number (2 ^ 32)

-- at each sign that has a number, one that it may take; the numbers are counted from the given place on
abbrev pub are_within_from : ℕ → List ℕ → List ℕ → Bool
are_within_from at [] numbers = true
are_within_from at (sign ∷ form) numbers =
    if has_number sign
    then is_within sign (slice_index_or numbers at 0) && are_within_from (at + 1) form numbers
    else are_within_from at form numbers

-- numbers that a form may take
abbrev pub are_within : List ℕ → List ℕ → Bool
are_within form numbers = are_within_from 0 form numbers
