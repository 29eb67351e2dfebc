-- The program of a text is within the limits of programs.
use Rattle.std.proofs.Common.{◌≡◌, ◌≤◌, ◌+◌, ◌%◌, ◌^◌, ℕ, Bool, true, false, if◌then◌else◌, List, [], ◌∷◌, ◌++◌, length, Option, Some, None, Result, Ok, Err, IfOk, refl, sym, ap, ◌∙◌, subst, arith, length-append, codes}
use Rattle.llsc_base.specs.Memory.{bytes_of}
use Rattle.elf32.specs.declared.units.Unit.{Unit}
use Rattle.elf32.specs.Units.{IsWithin, most_words, most_data}
use Rattle.a32_forms.specs.Forms.{Chosen, chosen}
use Rattle.a32_forms.specs.Text.{Part, parts}
use Rattle.a32_instr.specs.declared.instructions.Instr.{Instr}
use Rattle.a32_encode.specs.Encoding.{encoding_of}
use Rattle.a32_syntax.specs.declared.kinds.AsmKind.{AsmKind}
use Rattle.a32_syntax.specs.declared.kinds.AsmKind.TheVariants as kind
use Rattle.a32_syntax.specs.declared.operations.Mnemonic.{Mnemonic}
use Rattle.a32_syntax.specs.Meaning.{Site, instruction_of}
use Rattle.a32_asm.specs.declared.assembler.AsmFault.{AsmFault}
use Rattle.a32_asm.specs.declared.heads.Head.{Head}
use Rattle.a32_asm.specs.declared.heads.Head.TheVariants.{Nothing, Text, Data, Word, Byte, Space, Instruction, Unreadable}
use Rattle.a32_asm.specs.declared.layout.Spot.{Spot}
use Rattle.a32_asm.specs.Lines.{lines_of, head_of, operands_of, statement_of}
use Rattle.a32_asm.specs.Layout.{Layout, behind, counted, layout_of, next_spot, stands}
use Rattle.a32_asm.specs.Statements.{Piece, nothing, code_word, word_piece, alone, at_address, word_from, byte_from, space_from, with_word, encoded, instruction_from, piece_of, line_piece}
use Rattle.a32_asm.specs.Assembled.{Before, first, site_of, is_repeated, is_too_long, first_fault, behind_line, outcome, added, followed, unit_from, unit_of}
use Rattle.a32_asm.proofs.AddedLines.{unit_line, unit_none, not_long, limits}

-- ---- how much a piece adds

pub record Adds (piece : Piece) (words bytes : ℕ) : Type 0 where
  pub words_long : length piece.words ≡ words
  pub bytes_long : length piece.bytes ≡ bytes

adds : (known piece : Piece) → ◌≡◌ {A = Result Piece AsmKind} (Ok known) (Ok piece) → Adds piece (length known.words) (length known.bytes)
adds known piece h =
    let same : known ≡ piece = cc in
    record { words_long = ap (λ (p : Piece). length p.words) (sym same); bytes_long = ap (λ (p : Piece). length p.bytes) (sym same) }

no_piece : {A : Type 0} (fault : AsmKind) (piece : Piece) → ◌≡◌ {A = Result Piece AsmKind} (Err fault) (Ok piece) → A
no_piece fault piece h = absurd (let no : ⊥ = cc in no)

if_adds : (test : Bool) (known piece : Piece) (fault : AsmKind) → ◌≡◌ {A = Result Piece AsmKind} (if test then Ok known else Err fault) (Ok piece)
    → Adds piece (length known.words) (length known.bytes)
if_adds true known piece fault h = adds known piece h
if_adds false known piece fault h = no_piece fault piece h

alone_adds : (found : Option Chosen) (piece : Piece) → alone found ≡ Ok piece → Adds piece 0 0
alone_adds None piece h = no_piece kind.Operand piece h
alone_adds (Some found) piece h = adds nothing piece h

abbrev word_words : Bool → ℕ
word_words in_data = if in_data then 0 else 1

abbrev word_bytes : Bool → ℕ
word_bytes in_data = if in_data then 4 else 0

word_adds : (in_data : Bool) (word : ℕ) (piece : Piece) → ◌≡◌ {A = Result Piece AsmKind} (Ok (word_piece in_data word)) (Ok piece)
    → Adds piece (word_words in_data) (word_bytes in_data)
unfolding bytes_of
word_adds true word piece h = adds (word_piece true word) piece h
word_adds false word piece h = adds (word_piece false word) piece h

number_adds : (test in_data : Bool) (word : ℕ) (piece : Piece) → ◌≡◌ {A = Result Piece AsmKind} (if test then Ok (word_piece in_data word) else Err kind.Range) (Ok piece)
    → Adds piece (word_words in_data) (word_bytes in_data)
number_adds true in_data word piece h = word_adds in_data word piece h
number_adds false in_data word piece h = no_piece kind.Range piece h

address_adds : (in_data : Bool) (address : Option ℕ) (piece : Piece) → at_address in_data address ≡ Ok piece
    → Adds piece (word_words in_data) (word_bytes in_data)
address_adds in_data None piece h = no_piece kind.Label piece h
address_adds in_data (Some address) piece h = word_adds in_data address piece h

either : {A : Type 0} (test : Bool) (one other : Result Piece AsmKind) (piece : Piece) → (one ≡ Ok piece → A) → (other ≡ Ok piece → A)
    → (if test then one else other) ≡ Ok piece → A
either true one other piece f g h = f h
either false one other piece f g h = g h

word_from_adds : (site : Site) (in_data : Bool) (found : Option Chosen) (piece : Piece) → word_from site in_data found ≡ Ok piece
    → Adds piece (word_words in_data) (word_bytes in_data)
word_from_adds site in_data None piece h = no_piece kind.Operand piece h
word_from_adds site in_data (Some found) piece h =
    either _ _ _ piece (number_adds _ in_data _ piece) (address_adds in_data (site.labels found.fields.name) piece) h

byte_from_adds : (found : Option Chosen) (piece : Piece) → byte_from found ≡ Ok piece → Adds piece 0 1
byte_from_adds None piece h = no_piece kind.Operand piece h
byte_from_adds (Some found) piece h = if_adds _ _ piece kind.Range h

space_from_adds : (found : Option Chosen) (piece : Piece) → space_from found ≡ Ok piece → Adds piece 0 0
space_from_adds None piece h = no_piece kind.Operand piece h
space_from_adds (Some found) piece h = if_adds _ nothing piece kind.Range h

with_word_adds : (word : Option ℕ) (piece : Piece) → with_word word ≡ Ok piece → Adds piece 1 0
with_word_adds None piece h = no_piece kind.Operand piece h
with_word_adds (Some word) piece h = adds (code_word word) piece h

encoded_adds : (instruction : Result Instr AsmKind) (piece : Piece) → encoded instruction ≡ Ok piece → Adds piece 1 0
encoded_adds (Err fault) piece h = no_piece fault piece h
encoded_adds (Ok instruction) piece h = with_word_adds (encoding_of instruction) piece h

instruction_adds : (site : Site) (operands : List Part) (mnemonic : Option Mnemonic) (piece : Piece) → instruction_from site operands mnemonic ≡ Ok piece → Adds piece 1 0
instruction_adds site operands None piece h = no_piece kind.Mnemonic piece h
instruction_adds site operands (Some mnemonic) piece h = encoded_adds (instruction_of mnemonic site operands) piece h

-- ---- a spot behind a line counts what the line adds

pub record Counts (spot next : Spot) (piece : Piece) : Type 0 where
  pub words : next.words ≡ spot.words + length piece.words
  pub bytes : next.bytes ≡ spot.bytes + length piece.bytes

counts : (spot next : Spot) (piece : Piece) (words bytes : ℕ) → Adds piece words bytes → next.words ≡ spot.words + words → next.bytes ≡ spot.bytes + bytes
    → Counts spot next piece
counts spot next piece words bytes long w b = record { words = omega (arith, long.words_long, w); bytes = omega (arith, long.bytes_long, b) }

small : (count more : ℕ) → count ≤ most_data → more ≤ 4 → (count + more) % 2 ^ 64 ≡ count + more
small count more h k = omega arith

word_counts : (in_data : Bool) (spot : Spot) (piece : Piece) → spot.words ≤ most_words → spot.bytes ≤ most_data
    → Adds piece (word_words in_data) (word_bytes in_data)
    → Counts spot (if in_data then record spot { bytes = counted (spot.bytes + 4) } else record spot { words = counted (spot.words + 1) }) piece
word_counts true spot piece w b long =
    counts spot (record spot { bytes = counted (spot.bytes + 4) }) piece 0 4 long (omega arith) (small spot.bytes 4 b (omega arith))
word_counts false spot piece w b long =
    counts spot (record spot { words = counted (spot.words + 1) }) piece 1 0 long (small spot.words 1 (omega arith) (omega arith)) (omega arith)

head_counts : (head : Head) (site : Site) (spot : Spot) (text : List ℕ) (piece : Piece) → spot.words ≤ most_words → spot.bytes ≤ most_data
    → piece_of site spot.in_data head text ≡ Ok piece → Counts spot (behind head (operands_of text) spot) piece
head_counts Nothing site spot text piece w b h = counts spot _ piece 0 0 (adds nothing piece h) (omega arith) (omega arith)
head_counts Text site spot text piece w b h = counts spot _ piece 0 0 (alone_adds _ piece h) (omega arith) (omega arith)
head_counts Data site spot text piece w b h = counts spot _ piece 0 0 (alone_adds _ piece h) (omega arith) (omega arith)
head_counts Word site spot text piece w b h = word_counts spot.in_data spot piece w b (word_from_adds site spot.in_data (chosen (codes "n|l") (parts (operands_of text))) piece h)
head_counts Byte site spot text piece w b h = counts spot _ piece 0 1 (byte_from_adds (chosen (codes "n") (parts (operands_of text))) piece h) (omega arith) (small spot.bytes 1 b (omega arith))
head_counts Space site spot text piece w b h = counts spot _ piece 0 0 (space_from_adds (chosen (codes "n") (parts (operands_of text))) piece h) (omega arith) (omega arith)
head_counts Instruction site spot text piece w b h = counts spot _ piece 1 0 (instruction_adds site _ _ piece h) (small spot.words 1 (omega arith) (omega arith)) (omega arith)
head_counts Unreadable site spot text piece w b h = no_piece kind.Syntax piece h

stood_counts : (test : Bool) (head : Head) (site : Site) (spot : Spot) (text : List ℕ) (piece : Piece) → spot.words ≤ most_words → spot.bytes ≤ most_data
    → (if test then piece_of site spot.in_data head text else Err kind.Syntax) ≡ Ok piece
    → Counts spot (if test then behind head (operands_of text) spot else spot) piece
stood_counts true head site spot text piece w b h = head_counts head site spot text piece w b h
stood_counts false head site spot text piece w b h = no_piece kind.Syntax piece h

line_counts : (site : Site) (spot : Spot) (line : List ℕ) (piece : Piece) → spot.words ≤ most_words → spot.bytes ≤ most_data
    → line_piece site spot line ≡ Ok piece → Counts spot (next_spot spot line) piece
unfolding next_spot
line_counts site spot line piece w b h = stood_counts (stands spot line) (head_of (statement_of line)) site spot (statement_of line) piece w b h

-- ---- a program is within the limits

-- what a line adds is what it adds without the limits
kept : (repeated long : Bool) (found : Piece) (piece : Result Piece AsmKind) → first_fault repeated long piece ≡ Ok found → piece ≡ Ok found
kept true long found (Ok piece) h = cc
kept false true found (Ok piece) h = cc
kept false false found (Ok piece) h = h
kept true long found (Err kind.Range) h = cc
kept false long found (Err kind.Range) h = cc
kept repeated long found (Err fault) h = cc

-- with what stands before it, a program passes no limit
pub record Fits (spot : Spot) (unit : Unit) : Type 0 where
  pub words : spot.words + length unit.words ≤ most_words
  pub data_fits : spot.bytes + length unit.bytes + unit.space ≤ most_data

fits_none : (spot : Spot) (unit : Unit) → spot.words ≤ most_words → spot.bytes + spot.space ≤ most_data
    → ◌≡◌ {A = Result Unit AsmFault} (Ok (record { words = []; bytes = []; space = spot.space })) (Ok unit) → Fits spot unit
fits_none spot unit w d h =
    let none : Unit = record { words = []; bytes = []; space = spot.space } in
    let same : none ≡ unit = cc in
    subst (Fits spot) same (record { words = omega arith; data_fits = omega arith })

fits_more : (spot next : Spot) (piece : Piece) (later unit : Unit) → Counts spot next piece → Fits next later
    → added piece (Ok later) ≡ Ok unit → Fits spot unit
fits_more spot next piece later unit count rest h =
    let both : Unit = record later { words = piece.words ++ later.words; bytes = piece.bytes ++ later.bytes } in
    let same : both ≡ unit = cc in
    subst (Fits spot) same (record {
      words = omega (arith, count.words, rest.words, length-append piece.words later.words);
      data_fits = omega (arith, count.bytes, rest.data_fits, length-append piece.bytes later.bytes);
    })

fits_line : (layout : Layout) (before : Before) (line : List ℕ) (lines : List (List ℕ)) (unit : Unit) (found : Result Piece AsmKind) (later : Result Unit AsmFault)
    → before.spot.words ≤ most_words → before.spot.bytes + before.spot.space ≤ most_data
    → outcome layout before line lines ≡ found → followed before.number found later ≡ Ok unit
    → ((unit : Unit) → (next_spot before.spot line).words ≤ most_words → (next_spot before.spot line).bytes + (next_spot before.spot line).space ≤ most_data
    → later ≡ Ok unit → Fits (next_spot before.spot line) unit)
    → Fits before.spot unit
fits_line layout before line lines unit (Err fault) later w d is h rest = absurd (let no : ⊥ = cc in no)
fits_line layout before line lines unit (Ok piece) (Err fault) w d is h rest = absurd (let no : ⊥ = cc in no)
fits_line layout before line lines unit (Ok piece) (Ok later) w d is h rest =
    let next = behind_line before line lines in
    let short = limits next.spot next.read (not_long (is_repeated layout before line) (is_too_long next.spot next.read) piece (line_piece (site_of layout before.spot) before.spot line) (sym is)) in
    let count = line_counts (site_of layout before.spot) before.spot line piece w (omega arith) (kept (is_repeated layout before line) (is_too_long next.spot next.read) piece (line_piece (site_of layout before.spot) before.spot line) is) in
    fits_more before.spot next.spot piece later unit count (rest later short.0 short.1 refl) h

unit_fits : (layout : Layout) (before : Before) (lines : List (List ℕ)) (unit : Unit)
    → before.spot.words ≤ most_words → before.spot.bytes + before.spot.space ≤ most_data
    → unit_from layout before lines ≡ Ok unit → Fits before.spot unit
unit_fits layout before [] unit w d h = fits_none before.spot unit w d (sym (unit_none layout before) ∙ h)
unit_fits layout before (line ∷ lines) unit w d h =
    fits_line layout before line lines unit (outcome layout before line lines) (unit_from layout (behind_line before line lines) lines)
    w d refl (sym (unit_line layout before line lines) ∙ h) (unit_fits layout (behind_line before line lines) lines)

pub unit_within : (text : List ℕ) (unit : Unit) → unit_of text ≡ Ok unit → IsWithin unit
unit_within text unit h =
    let fits = unit_fits (layout_of (lines_of text)) first (lines_of text) unit (omega arith) (omega arith) h in
    record { code = omega (arith, fits.words); bytes = omega (arith, fits.data_fits) }

pub made_within : (text : List ℕ) (made : Result Unit AsmFault) → IfOk made (λ unit. unit_of text ≡ Ok unit) → IfOk made IsWithin
made_within text (Ok unit) h = unit_within text unit h
made_within text (Err fault) h = h
