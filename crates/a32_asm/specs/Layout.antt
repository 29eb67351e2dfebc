-- Where each line of a text stands, and the addresses of its labels.
use Rattle.std.specs.Prelude.{ℕ, ◌+◌, ◌-◌, ◌*◌, ◌%◌, ◌^◌, ◌&&◌, not, if◌then◌else◌, Bool, true, false, List, [], ◌∷◌, ◌++◌, length, Option, Some, None, codes}
use Rattle.std.specs.List.{find}
use Rattle.std.specs.Option.{option_map}
use Rattle.std.specs.Str.{bytes_eq}
use Rattle.llsc_base.specs.Limits.{code_start}
use Rattle.elf32.specs.Units.{data_start}
use Rattle.a32_forms.specs.Text.{parts}
use Rattle.a32_forms.specs.Forms.{Chosen, chosen, number_at}
use Rattle.a32_asm.specs.declared.layout.Spot.{Spot}
use Rattle.a32_asm.specs.declared.places.LabelPlace.{LabelPlace}
use Rattle.a32_asm.specs.declared.heads.Head.{Head}
use Rattle.a32_asm.specs.declared.heads.Head.TheVariants.{Nothing, Text, Data, Word, Byte, Space, Instruction, Unreadable}
use Rattle.a32_asm.specs.Lines.{before_comment, is_ascii, front_of, label_of, statement_of, head_of, operands_of}

-- a text begins in its code
abbrev pub start : Spot
start = record { in_data = false; words = 0; bytes = 0; spaced = false; space = 0 }

-- What may stand at a spot: instructions and words in the code; bytes and words in the data before any space; space in
-- the data.
abbrev pub may_stand : Head → Spot → Bool
may_stand Nothing spot = true
may_stand Text spot = true
may_stand Data spot = true
may_stand Word spot = not (spot.in_data && spot.spaced)
may_stand Byte spot = spot.in_data && not spot.spaced
may_stand Space spot = spot.in_data
may_stand Instruction spot = not spot.in_data
may_stand Unreadable spot = false

-- a line of the form of lines, whose statement may stand at its spot
abbrev pub stands : Spot → List ℕ → Bool
stands spot line = is_ascii (before_comment line) && may_stand (head_of (statement_of line)) spot

-- Counts are taken modulo 2 to the 64: the limits are passed long before.
abbrev pub counted : ℕ → ℕ
counted count = count % 2 ^ 64

-- the number of a `.space`
abbrev pub space_of : Option Chosen → ℕ
space_of None = 0
space_of (Some found) = number_at found 0

-- the spot behind a statement
abbrev pub behind : Head → List ℕ → Spot → Spot
behind Nothing operands spot = spot
behind Text operands spot = record spot { in_data = false }
behind Data operands spot = record spot { in_data = true }
behind Word operands spot =
    if spot.in_data then record spot { bytes = counted (spot.bytes + 4) } else record spot { words = counted (spot.words + 1) }
behind Byte operands spot = record spot { bytes = counted (spot.bytes + 1) }
behind Space operands spot = record spot { spaced = true; space = counted (spot.space + space_of (chosen (codes "n") (parts operands))) }
behind Instruction operands spot = record spot { words = counted (spot.words + 1) }
behind Unreadable operands spot = spot

-- the spot behind a line; one that can't stand there takes no place
unfoldable pub next_spot : Spot → List ℕ → Spot
next_spot spot line =
    if stands spot line then behind (head_of (statement_of line)) (operands_of (statement_of line)) spot else spot

-- how many bytes of its section are before a spot, modulo 2 to the 32: the space stands behind the other data
abbrev pub offset_of : Spot → ℕ
offset_of spot = (if spot.in_data then spot.bytes + spot.space else 4 * spot.words) % 2 ^ 32

-- A label has a name, and a place: its line's spot in the program, and where its name begins in the text.
pub record Label : Type 0 where
  pub name : List ℕ
  pub place : LabelPlace

-- the place at a spot, and behind so many bytes of text
abbrev pub place : Spot → ℕ → LabelPlace
place spot at = record { at = at; in_data = spot.in_data; offset = offset_of spot }

-- how many blanks a line begins with
abbrev pub indent_of : List ℕ → ℕ
indent_of line = length (before_comment line) - length (front_of line)

abbrev pub labels_here : LabelPlace → Option (List ℕ) → List Label
labels_here place None = []
labels_here place (Some name) = record { name = name; place = place } ∷ []

-- the label of a line at its spot, if it has one, where so many bytes of text are before the line
abbrev pub labels_of : Spot → ℕ → List ℕ → List Label
labels_of spot read line = labels_here (place spot (read + indent_of line)) (label_of line)

-- how many bytes a line has, with the newline that ends it, which the last line doesn't have
abbrev pub line_size : List ℕ → List (List ℕ) → ℕ
line_size line [] = length line
line_size line (next ∷ lines) = length line + 1

-- the labels of lines, from a spot and so many bytes of text on
unfoldable pub labels_from : Spot → ℕ → List (List ℕ) → List Label
labels_from spot read [] = []
labels_from spot read (line ∷ lines) =
    labels_of spot read line ++ labels_from (next_spot spot line) (read + line_size line lines) lines

-- the spot behind lines
unfoldable pub end_from : Spot → List (List ℕ) → Spot
end_from spot [] = spot
end_from spot (line ∷ lines) = end_from (next_spot spot line) lines

-- the place of the first label of a name
abbrev pub place_in : List Label → List ℕ → Option LabelPlace
place_in labels name = option_map (λ label. label.place) (find (λ label. bytes_eq name label.name) labels)

-- the address of a place, modulo 2 to the 32, where the code has so many words
abbrev pub address_at : ℕ → LabelPlace → ℕ
address_at words place = ((if place.in_data then data_start words else code_start) + place.offset) % 2 ^ 32

-- What the lines of a text say of one another: the places of its labels, and how many words its code has.
pub record Layout : Type 0 where
  pub places : List ℕ → Option LabelPlace
  pub words : ℕ

abbrev pub layout_of : List (List ℕ) → Layout
layout_of lines = record { places = place_in (labels_from start 0 lines); words = (end_from start lines).words }

-- the address of a label
abbrev pub address_of : Layout → List ℕ → Option ℕ
address_of layout name = option_map (address_at layout.words) (layout.places name)
