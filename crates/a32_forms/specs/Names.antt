-- The names of registers and of kinds of shift.
use Rattle.std.specs.Prelude.{ℕ, ◌+◌, ◌==◌, if◌then◌else◌, List, [], ◌∷◌, slice_index_or, Option, Some, None, codes}
use Rattle.std.specs.List.{slice_split}
use Rattle.std.specs.Str.{bytes_eq}
use Rattle.a32_forms.specs.Text.{space}

-- the names that stand in a text, between single spaces
abbrev pub names_in : List ℕ → List (List ℕ)
names_in text = slice_split (λ code. code == space) text

-- the place of a word among names, counted from a number on
unfoldable pub place_from : ℕ → List (List ℕ) → List ℕ → Option ℕ
place_from place [] word = None
place_from place (name ∷ names) word = if bytes_eq name word then Some place else place_from (place + 1) names word

-- the core registers by number (DDI 0406C A2.3), and names that three of them have besides
abbrev pub numbered_registers : List ℕ
numbered_registers = codes "r0 r1 r2 r3 r4 r5 r6 r7 r8 r9 r10 r11 r12 r13 r14 r15"

abbrev pub named_registers : List ℕ
named_registers = codes "sp lr pc"

abbrev pub or_else : Option ℕ → Option ℕ → Option ℕ
or_else (Some value) other = Some value
or_else None other = other

-- the number of a register by its name
abbrev pub register_of : List ℕ → Option ℕ
register_of word = or_else (place_from 0 (names_in numbered_registers) word) (place_from 13 (names_in named_registers) word)

-- the name by which a register is shown
abbrev pub shown_registers : List ℕ
shown_registers = codes "r0 r1 r2 r3 r4 r5 r6 r7 r8 r9 r10 r11 r12 sp lr pc"

abbrev pub register_name : ℕ → List ℕ
register_name number = slice_index_or (names_in shown_registers) number []

-- the kinds of shift, in the order of their encodings (DDI 0406C A8.4.1)
abbrev pub shifts : List ℕ
shifts = codes "lsl lsr asr ror"

abbrev pub shift_of : List ℕ → Option ℕ
shift_of word = place_from 0 (names_in shifts) word

abbrev pub shift_name : ℕ → List ℕ
shift_name kind = slice_index_or (names_in shifts) kind []
