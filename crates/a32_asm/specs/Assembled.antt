-- The program that a text is, or the first fault of the text.
use Rattle.std.specs.Prelude.{ℕ, ◌+◌, ◌*◌, ◌||◌, nat_lt, if◌then◌else◌, Bool, false, List, [], ◌∷◌, ◌++◌, Option, Some, None, Result, Ok, Err}
use Rattle.a32_asm.specs.declared.places.LabelPlace.{LabelPlace}
use Rattle.elf32.specs.declared.units.Unit.{Unit}
use Rattle.llsc_base.specs.Limits.{code_start}
use Rattle.elf32.specs.Units.{most_words, most_data}
use Rattle.a32_syntax.specs.declared.kinds.AsmKind.{AsmKind}
use Rattle.a32_syntax.specs.declared.kinds.AsmKind.TheVariants as kind
use Rattle.a32_syntax.specs.Meaning.{Site}
use Rattle.a32_asm.specs.declared.assembler.AsmFault.{AsmFault}
use Rattle.a32_asm.specs.Lines.{lines_of, label_of}
use Rattle.a32_asm.specs.declared.layout.Spot.{Spot}
use Rattle.a32_asm.specs.Layout.{Layout, start, next_spot, line_size, address_of, layout_of}
use Rattle.a32_asm.specs.Statements.{Piece, line_piece}

-- the most bytes of a text
abbrev pub most_text : ℕ
most_text = 4194304

-- What stands before a line: its spot, its number, and the bytes of text before it.
pub record Before : Type 0 where
  pub spot : Spot
  pub number : ℕ
  pub read : ℕ

abbrev pub first : Before
first = record { spot = start; number = 1; read = 0 }

-- what stands before the next line
abbrev pub behind_line : Before → List ℕ → List (List ℕ) → Before
behind_line before line lines = record {
  spot = next_spot before.spot line;
  number = before.number + 1;
  read = before.read + line_size line lines;
}

-- the first label of a name is one of an earlier line: its name begins before this line
abbrev pub is_earlier : ℕ → Option LabelPlace → Bool
is_earlier read None = false
is_earlier read (Some place) = nat_lt place.at read

-- a line defines a label that an earlier line defines
abbrev pub is_known : Layout → ℕ → Option (List ℕ) → Bool
is_known layout read None = false
is_known layout read (Some name) = is_earlier read (layout.places name)

abbrev pub is_repeated : Layout → Before → List ℕ → Bool
is_repeated layout before line = is_known layout before.read (label_of line)

-- a limit is passed
abbrev pub is_too_long : Spot → ℕ → Bool
is_too_long spot read = nat_lt most_words spot.words || nat_lt most_data (spot.bytes + spot.space) || nat_lt most_text read

-- The first fault of a line: those of its form, its mnemonic, its operands and their labels, then a repeated label, then a
-- number out of range, then a limit.
abbrev pub first_fault : Bool → Bool → Result Piece AsmKind → Result Piece AsmKind
first_fault repeated too_long (Err kind.Range) = if repeated then Err kind.Repeated else Err kind.Range
first_fault repeated too_long (Err fault) = Err fault
first_fault repeated too_long (Ok piece) = if repeated then Err kind.Repeated else if too_long then Err kind.TooLong else Ok piece

-- where the instruction of a line stands, and the addresses of the labels
abbrev pub site_of : Layout → Spot → Site
site_of layout spot = record { here = code_start + 4 * spot.words; labels = address_of layout }

-- what a line adds, or its first fault
abbrev pub outcome : Layout → Before → List ℕ → List (List ℕ) → Result Piece AsmKind
outcome layout before line lines =
    first_fault (is_repeated layout before line)
    (is_too_long (behind_line before line lines).spot (behind_line before line lines).read)
    (line_piece (site_of layout before.spot) before.spot line)

-- what lines add, in order; the space behind them all is that of the last spot
abbrev pub added : Piece → Result Unit AsmFault → Result Unit AsmFault
added piece (Ok unit) = Ok (record unit { words = piece.words ++ unit.words; bytes = piece.bytes ++ unit.bytes })
added piece (Err fault) = Err fault

abbrev pub followed : ℕ → Result Piece AsmKind → Result Unit AsmFault → Result Unit AsmFault
followed number (Ok piece) later = added piece later
followed number (Err fault) later = Err (record { line = number; kind = fault })

unfoldable pub unit_from : Layout → Before → List (List ℕ) → Result Unit AsmFault
unit_from layout before [] = Ok (record { words = []; bytes = []; space = before.spot.space })
unit_from layout before (line ∷ lines) =
    followed before.number (outcome layout before line lines) (unit_from layout (behind_line before line lines) lines)

-- the program of a text, or the line and the kind of its first fault
abbrev pub unit_of : List ℕ → Result Unit AsmFault
unit_of text = unit_from (layout_of (lines_of text)) first (lines_of text)
