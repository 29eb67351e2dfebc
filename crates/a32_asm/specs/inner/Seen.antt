-- Only proofs and inner contracts need these words.
-- What the values of the code stand for: what is left of a text that is read line by line, a layout, and what a line adds.
use Rattle.std.specs.Prelude.{ℕ, ◌+◌, ◌&&◌, if◌then◌else◌, length, List, [], ◌∷◌, Option, Some, None, Result, Ok, Err}
use Rattle.std.specs.Borrow.{Bor}
use Rattle.llsc_base.specs.Memory.{bytes_of}
use Rattle.a32_asm.specs.declared.layout.Spot.{Spot}
use Rattle.a32_asm.specs.declared.layout.TextLayout.{TextLayout}
use Rattle.a32_asm.specs.declared.places.LabelPlace.{LabelPlace}
use Rattle.a32_asm.specs.declared.lines.Line.{Line}
use Rattle.a32_asm.specs.Lines.{lines_of, operands_of}
use Rattle.a32_asm.specs.Layout.{Layout, may_stand, behind}
use Rattle.a32_asm.specs.inner.Labels.{place_named}
use Rattle.a32_syntax.specs.declared.kinds.AsmKind.{AsmKind}
use Rattle.a32_asm.specs.declared.pieces.Added.{Added}
use Rattle.a32_asm.specs.declared.pieces.Added.TheVariants as added
use Rattle.a32_asm.specs.Statements.{Piece, nothing, code_word, data_bytes}

-- the lines of what is left, none where nothing is
abbrev pub lines_left : Option (Bor (List ℕ)) → List (List ℕ)
lines_left None = []
lines_left (Some text) = lines_of text.now

-- what is left
abbrev pub text_left : Option (Bor (List ℕ)) → List ℕ
text_left None = []
text_left (Some text) = text.now

-- how many bytes are left
abbrev pub bytes_left : Option (Bor (List ℕ)) → ℕ
bytes_left None = 0
bytes_left (Some text) = length text.now

-- what is left grows less with each line, the last one too
abbrev pub size_left : Option (Bor (List ℕ)) → ℕ
size_left None = 0
size_left (Some text) = length text.now + 1

-- the place of a label, if there is one
abbrev pub places_here : LabelPlace → Option (List ℕ) → List LabelPlace
places_here place None = []
places_here place (Some name) = place ∷ []

-- the spot behind a line that was read
abbrev pub spot_behind : Spot → Line → Spot
spot_behind spot line =
    if line.is_ascii && may_stand line.head spot then behind line.head (operands_of line.statement.now) spot else spot

-- a layout by what its labels say of each name
abbrev pub layout_seen : TextLayout → Layout
layout_seen layout = record { places = place_named layout.labels; words = layout.words }

-- what a line adds, as its words and bytes
abbrev pub added_piece : Added → Piece
added_piece added.Nothing = nothing
added_piece (added.Code word) = code_word word
added_piece (added.Data word) = data_bytes (bytes_of 4 word)
added_piece (added.Byte byte) = data_bytes (byte ∷ [])

abbrev pub piece_seen : Result Added AsmKind → Result Piece AsmKind
piece_seen (Ok found) = Ok (added_piece found)
piece_seen (Err fault) = Err fault
