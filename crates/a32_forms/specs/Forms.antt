-- The forms that operands may have, each written as a text of signs:
--
--   r  a register          n  a number              b  a list of registers, before its closing brace
--   k  a kind of shift     x  a number, which is shown as `0x` and eight hexadecimal digits
--   l  a label's name      ~  `-` or nothing        !  `!` or nothing
--   X  the word `rrx`      O  the word `ror`        L  the word `lo`      H  the word `hi`
--
-- A blank is passed over, and every other sign stands for itself. Several forms stand in a text with `|` between.
use Rattle.std.specs.Prelude.{ℕ, ◌+◌, ◌==◌, ◌||◌, if◌then◌else◌, List, [], ◌∷◌, ◌++◌, Option, Some, None, codes, slice_index_or}
use Rattle.std.specs.List.{slice_split}
use Rattle.std.specs.Option.{option_map}
use Rattle.std.specs.Str.{bytes_eq}
use Rattle.a32_forms.specs.Text.{Part, Word, Mark, is_blank, is_name, bar, closing_brace, exclamation, minus, tilde}
use Rattle.a32_forms.specs.Numbers.{number_of}
use Rattle.a32_forms.specs.Names.{register_of, shift_of}
use Rattle.a32_forms.specs.Registers.{is_mark, registers_in}

-- The signs that are letters.

abbrev pub b : ℕ
b = 98

abbrev pub k : ℕ
k = 107

abbrev pub l : ℕ
l = 108

abbrev pub n : ℕ
n = 110

abbrev pub r : ℕ
r = 114

abbrev pub x : ℕ
x = 120

abbrev pub H : ℕ
H = 72

abbrev pub L : ℕ
L = 76

abbrev pub O : ℕ
O = 79

abbrev pub X : ℕ
X = 88

-- what the operands have at the signs of a form: numbers, one for each sign that has one, and the name of a label
pub record Fields : Type 0 where
  pub numbers : List ℕ
  pub name : List ℕ

-- nothing so far
abbrev pub no_fields : Fields
no_fields = record { numbers = []; name = [] }

abbrev pub with_number : ℕ → Fields → Fields
with_number number fields = record fields { numbers = fields.numbers ++ number ∷ [] }

-- what was taken so far, and the parts that are left
pub record Took : Type 0 where
  pub fields : Fields
  pub rest : List Part

-- a number was taken, or a part that has none
abbrev pub took : Fields → List Part → ℕ → Took
took fields rest number = record { fields = with_number number fields; rest = rest }

abbrev pub passed : Fields → List Part → Took
passed fields rest = record { fields = fields; rest = rest }

-- a word that stands for itself
abbrev pub takes_word : List ℕ → Fields → List ℕ → List Part → Option Took
takes_word wanted fields word rest = if bytes_eq word wanted then Some (passed fields rest) else None

abbrev pub takes_name : Fields → List ℕ → List Part → Option Took
takes_name fields word rest = if is_name word then Some (passed (record fields { name = word }) rest) else None

-- a word where a sign wants one
unfoldable pub takes_at_word : ℕ → Fields → List ℕ → List Part → Option Took
takes_at_word sign fields word rest =
    if sign == r then option_map (took fields rest) (register_of word) else
    if (sign == n) || (sign == x) then option_map (took fields rest) (number_of word) else
    if sign == k then option_map (took fields rest) (shift_of word) else
    if sign == l then takes_name fields word rest else
    if sign == X then takes_word (codes "rrx") fields word rest else
    if sign == O then takes_word (codes "ror") fields word rest else
    if sign == L then takes_word (codes "lo") fields word rest else
    if sign == H then takes_word (codes "hi") fields word rest else
    None

-- a mark that may be left out: 1 where it stands, else 0
abbrev pub takes_or_not : ℕ → Fields → List Part → Option Took
takes_or_not code fields (Mark mark ∷ rest) = if mark == code then Some (took fields rest 1) else Some (took fields (Mark mark ∷ rest) 0)
takes_or_not code fields parts = Some (took fields parts 0)

-- the parts before the first of a mark, and those from it on
unfoldable pub before_mark : ℕ → List Part → List Part
before_mark code [] = []
before_mark code (part ∷ parts) = if is_mark code part then [] else part ∷ before_mark code parts

unfoldable pub from_mark : ℕ → List Part → List Part
from_mark code [] = []
from_mark code (part ∷ parts) = if is_mark code part then part ∷ parts else from_mark code parts

-- a list of registers, which a brace ends
abbrev pub takes_registers : Fields → List Part → Option Took
takes_registers fields parts = option_map (took fields (from_mark closing_brace parts)) (registers_in (before_mark closing_brace parts))

-- a word or a mark for a sign that wants one
abbrev pub takes_part : ℕ → Fields → List Part → Option Took
takes_part sign fields [] = None
takes_part sign fields (Word word ∷ rest) = takes_at_word sign fields word rest
takes_part sign fields (Mark mark ∷ rest) = if mark == sign then Some (passed fields rest) else None

-- what a sign takes from the front
unfoldable pub takes_sign : ℕ → Fields → List Part → Option Took
takes_sign sign fields parts =
    if sign == tilde then takes_or_not minus fields parts else
    if sign == exclamation then takes_or_not exclamation fields parts else
    if sign == b then takes_registers fields parts else
    if is_blank sign then Some (passed fields parts) else
    takes_part sign fields parts

abbrev pub and_then_takes : (Took → Option Fields) → Option Took → Option Fields
and_then_takes further None = None
and_then_takes further (Some so_far) = further so_far

-- what a form takes from operands with nothing left
unfoldable pub takes_from : List ℕ → Fields → List Part → Option Fields
takes_from [] fields [] = Some fields
takes_from [] fields (part ∷ parts) = None
takes_from (sign ∷ form) fields parts =
    and_then_takes (λ so_far. takes_from form so_far.fields so_far.rest) (takes_sign sign fields parts)

-- the fields of operands that have a form
abbrev pub takes : List ℕ → List Part → Option Fields
takes form parts = takes_from form no_fields parts

-- the forms of a text
abbrev pub forms_in : List ℕ → List (List ℕ)
forms_in text = slice_split (λ code. code == bar) text

-- one of the forms of a text, counted from 0
abbrev pub form_in : List ℕ → ℕ → List ℕ
form_in text at = slice_index_or (forms_in text) at []

-- the first form that operands have, by its place, and the fields
pub record Chosen : Type 0 where
  pub form : ℕ
  pub fields : Fields

abbrev pub or_later : ℕ → Option Chosen → Option Fields → Option Chosen
or_later form later (Some fields) = Some (record { form = form; fields = fields })
or_later form later None = later

unfoldable pub chosen_from : ℕ → List (List ℕ) → List Part → Option Chosen
chosen_from form [] parts = None
chosen_from form (first ∷ forms) parts = or_later form (chosen_from (form + 1) forms parts) (takes first parts)

abbrev pub chosen : List ℕ → List Part → Option Chosen
chosen forms parts = chosen_from 0 (forms_in forms) parts

-- one of the numbers of what was chosen
abbrev pub number_at : Chosen → ℕ → ℕ
number_at found at = slice_index_or found.fields.numbers at 0
