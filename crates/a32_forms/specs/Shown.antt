-- The parts that a form shows, and which forms are read again as they are shown.
use Rattle.std.specs.Prelude.{ℕ, ◌==◌, ◌&&◌, ◌||◌, not, if◌then◌else◌, Bool, true, false, List, [], ◌∷◌, ◌++◌, drop, slice_index_or, codes}
use Rattle.std.specs.Fmt.{decimal}
use Rattle.number_text.specs.Hexadecimal.{word_text}
use Rattle.a32_instr.specs.Block.{registers_of}
use Rattle.a32_forms.specs.Text.{Part, Word, Mark, is_blank, is_wordy, closing_brace, comma, exclamation, minus, tilde}
use Rattle.a32_forms.specs.Names.{register_name, shift_name}
use Rattle.a32_forms.specs.Forms.{b, k, n, r, x, H, L, O, X}
use Rattle.a32_forms.specs.Written.{has_number}

-- the registers of a list, and a comma between
unfoldable pub list_parts : List ℕ → List Part
list_parts [] = []
list_parts (register ∷ []) = Word (register_name register) ∷ []
list_parts (register ∷ next ∷ registers) = Word (register_name register) ∷ Mark comma ∷ list_parts (next ∷ registers)

-- a mark where its number is 1
abbrev pub mark_parts : ℕ → ℕ → List Part
mark_parts code number = if number == 0 then [] else Mark code ∷ []

-- the parts by which a sign shows its number
unfoldable pub number_parts : ℕ → ℕ → List Part
number_parts sign number =
    if sign == r then Word (register_name number) ∷ [] else
    if sign == n then Word (decimal number) ∷ [] else
    if sign == x then Word (codes "0x" ++ word_text number) ∷ [] else
    if sign == k then Word (shift_name number) ∷ [] else
    if sign == b then list_parts (registers_of number) else
    if sign == tilde then mark_parts minus number else
    mark_parts exclamation number

-- the parts of a sign without a number
unfoldable pub sign_parts : ℕ → List Part
sign_parts sign =
    if sign == X then Word (codes "rrx") ∷ [] else
    if sign == O then Word (codes "ror") ∷ [] else
    if sign == L then Word (codes "lo") ∷ [] else
    if sign == H then Word (codes "hi") ∷ [] else
    if is_blank sign then [] else
    Mark sign ∷ []

-- the parts of a form with numbers
unfoldable pub pieces : List ℕ → List ℕ → List Part
pieces [] numbers = []
pieces (sign ∷ form) numbers =
    if has_number sign
    then number_parts sign (slice_index_or numbers 0 0) ++ pieces form (drop 1 numbers)
    else sign_parts sign ++ pieces form numbers

-- a mark or a blank that stands for itself
abbrev pub is_plain : ℕ → Bool
is_plain sign = not (is_wordy sign) && (not (sign == tilde) && not (sign == exclamation))

-- a sign that can be shown: each of them but a label's name
abbrev pub is_sign : ℕ → Bool
is_sign sign =
    is_plain sign || (sign == r) || (sign == n) || (sign == x) || (sign == k) || (sign == b) || (sign == X) || (sign == O) ||
    (sign == L) || (sign == H) || (sign == tilde) || (sign == exclamation)

-- a form whose text begins with no word, also where its first marks are left out
abbrev pub begins_apart : List ℕ → Bool
begins_apart [] = true
begins_apart (sign ∷ form) = if (sign == tilde) || (sign == exclamation) then begins_apart form else not (is_wordy sign)

-- a form whose first part may be this mark
abbrev pub may_begin : ℕ → List ℕ → Bool
may_begin code [] = false
may_begin code (sign ∷ form) =
    if is_blank sign then may_begin code form else
    if sign == tilde then (code == minus) || may_begin code form else
    if sign == exclamation then (code == exclamation) || may_begin code form else
    sign == code

abbrev pub begins_with : ℕ → List ℕ → Bool
begins_with code [] = false
begins_with code (sign ∷ form) = sign == code

-- What may stand behind a sign: behind a word no word, behind a list its brace, and behind a mark that may be left out
-- not the same mark.
abbrev pub goes_on : ℕ → List ℕ → Bool
goes_on sign form =
    if sign == b then begins_with closing_brace form else
    if sign == tilde then not (may_begin minus form) else
    if sign == exclamation then not (may_begin exclamation form) else
    not (is_wordy sign) || begins_apart form

-- a form that is read again as it is shown
abbrev pub is_form : List ℕ → Bool
is_form [] = true
is_form (sign ∷ form) = is_sign sign && (goes_on sign form && is_form form)
