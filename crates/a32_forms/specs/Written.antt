-- Operands as they are shown: a form with numbers in the places of its signs.
use Rattle.std.specs.Prelude.{ℕ, ◌==◌, ◌||◌, if◌then◌else◌, Bool, List, [], ◌∷◌, ◌++◌, slice_index_or, drop, codes}
use Rattle.std.specs.Fmt.{decimal}
use Rattle.number_text.specs.Hexadecimal.{word_text}
use Rattle.a32_instr.specs.Block.{registers_of}
use Rattle.a32_forms.specs.Names.{register_name, shift_name}
use Rattle.a32_forms.specs.Registers.{list_text}
use Rattle.a32_forms.specs.Forms.{b, k, n, r, x, H, L, O, X}
use Rattle.a32_forms.specs.Text.{exclamation, minus, tilde}

-- a mark where its number is 1
abbrev pub mark_text : ℕ → ℕ → List ℕ
mark_text code number = if number == 0 then [] else code ∷ []

-- a sign that has a number
abbrev pub has_number : ℕ → Bool
has_number sign =
    (sign == r) || (sign == n) || (sign == x) || (sign == k) || (sign == b) || (sign == tilde) || (sign == exclamation)

-- how a sign shows its number
unfoldable pub number_text : ℕ → ℕ → List ℕ
number_text sign number =
    if sign == r then register_name number else
    if sign == n then decimal number else
    if sign == x then codes "0x" ++ word_text number else
    if sign == k then shift_name number else
    if sign == b then list_text (registers_of number) else
    if sign == tilde then mark_text minus number else
    mark_text exclamation number

-- how a sign without a number is shown
unfoldable pub sign_text : ℕ → List ℕ
sign_text sign =
    if sign == X then codes "rrx" else
    if sign == O then codes "ror" else
    if sign == L then codes "lo" else
    if sign == H then codes "hi" else
    sign ∷ []

-- a form with numbers
unfoldable pub written : List ℕ → List ℕ → List ℕ
written [] numbers = []
written (sign ∷ form) numbers =
    if has_number sign
    then number_text sign (slice_index_or numbers 0 0) ++ written form (drop 1 numbers)
    else sign_text sign ++ written form numbers
