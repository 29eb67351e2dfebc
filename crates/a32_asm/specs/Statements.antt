-- What a line adds to a program, or what is wrong with it.
use Rattle.std.specs.Prelude.{ℕ, ◌==◌, nat_le, nat_lt, if◌then◌else◌, Bool, List, [], ◌∷◌, Option, Some, None, Result, Ok, Err, codes}
use Rattle.llsc_base.specs.Memory.{bytes_of}
use Rattle.a32_instr.specs.declared.instructions.Instr.{Instr}
use Rattle.a32_encode.specs.Encoding.{encoding_of}
use Rattle.a32_forms.specs.Text.{Part, parts, front_word}
use Rattle.a32_forms.specs.Numbers.{too_great}
use Rattle.a32_forms.specs.Forms.{Chosen, chosen, number_at}
use Rattle.a32_syntax.specs.declared.kinds.AsmKind.{AsmKind}
use Rattle.a32_syntax.specs.declared.kinds.AsmKind.TheVariants as kind
use Rattle.a32_syntax.specs.declared.operations.Mnemonic.{Mnemonic}
use Rattle.a32_syntax.specs.Mnemonics.{mnemonic_of}
use Rattle.a32_syntax.specs.Meaning.{Site, instruction_of}
use Rattle.a32_asm.specs.declared.heads.Head.{Head}
use Rattle.a32_asm.specs.declared.heads.Head.TheVariants.{Nothing, Text, Data, Word, Byte, Space, Instruction, Unreadable}
use Rattle.a32_asm.specs.Lines.{statement_of, head_of, operands_of}
use Rattle.a32_asm.specs.declared.layout.Spot.{Spot}
use Rattle.a32_asm.specs.Layout.{stands}

-- What a line adds: code words, or data bytes.
pub record Piece : Type 0 where
  pub words : List ℕ
  pub bytes : List ℕ

abbrev pub nothing : Piece
nothing = record { words = []; bytes = [] }

abbrev pub code_word : ℕ → Piece
code_word word = record { words = word ∷ []; bytes = [] }

abbrev pub data_bytes : List ℕ → Piece
data_bytes bytes = record { words = []; bytes = bytes }

-- a word of the code, or of the data, where its bytes stand with the lowest first
abbrev pub word_piece : Bool → ℕ → Piece
word_piece in_data word = if in_data then data_bytes (bytes_of 4 word) else code_word word

-- Directives. Operands that a directive doesn't have are a fault of the operands.

-- no operands
abbrev pub alone : Option Chosen → Result Piece AsmKind
alone None = Err kind.Operand
alone (Some found) = Ok nothing

abbrev pub at_address : Bool → Option ℕ → Result Piece AsmKind
at_address in_data None = Err kind.Label
at_address in_data (Some address) = Ok (word_piece in_data address)

-- a number, or the address of a label
abbrev pub word_from : Site → Bool → Option Chosen → Result Piece AsmKind
word_from site in_data None = Err kind.Operand
word_from site in_data (Some found) =
    if found.form == 0
    then (if nat_lt (number_at found 0) too_great then Ok (word_piece in_data (number_at found 0)) else Err kind.Range)
    else at_address in_data (site.labels found.fields.name)

abbrev pub byte_from : Option Chosen → Result Piece AsmKind
byte_from None = Err kind.Operand
byte_from (Some found) = if nat_le (number_at found 0) 255 then Ok (data_bytes (number_at found 0 ∷ [])) else Err kind.Range

-- space adds no bytes of its own: it stands behind all of them
abbrev pub space_from : Option Chosen → Result Piece AsmKind
space_from None = Err kind.Operand
space_from (Some found) = if nat_lt (number_at found 0) too_great then Ok nothing else Err kind.Range

-- Instructions. One that no word means has no encoding, which is a fault of its operands.

abbrev pub with_word : Option ℕ → Result Piece AsmKind
with_word None = Err kind.Operand
with_word (Some word) = Ok (code_word word)

abbrev pub encoded : Result Instr AsmKind → Result Piece AsmKind
encoded (Err fault) = Err fault
encoded (Ok instruction) = with_word (encoding_of instruction)

abbrev pub instruction_from : Site → List Part → Option Mnemonic → Result Piece AsmKind
instruction_from site operands None = Err kind.Mnemonic
instruction_from site operands (Some mnemonic) = encoded (instruction_of mnemonic site operands)

-- a statement of the code or of the data
abbrev pub piece_of : Site → Bool → Head → List ℕ → Result Piece AsmKind
piece_of site in_data Nothing text = Ok nothing
piece_of site in_data Text text = alone (chosen (codes "") (parts (operands_of text)))
piece_of site in_data Data text = alone (chosen (codes "") (parts (operands_of text)))
piece_of site in_data Word text = word_from site in_data (chosen (codes "n|l") (parts (operands_of text)))
piece_of site in_data Byte text = byte_from (chosen (codes "n") (parts (operands_of text)))
piece_of site in_data Space text = space_from (chosen (codes "n") (parts (operands_of text)))
piece_of site in_data Instruction text = instruction_from site (parts (operands_of text)) (mnemonic_of (front_word text))
piece_of site in_data Unreadable text = Err kind.Syntax

-- a line at its spot
abbrev pub line_piece : Site → Spot → List ℕ → Result Piece AsmKind
line_piece site spot line =
    if stands spot line then piece_of site spot.in_data (head_of (statement_of line)) (statement_of line) else Err kind.Syntax
