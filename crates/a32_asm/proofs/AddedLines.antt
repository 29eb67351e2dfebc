-- A program that is made line by line.
use Rattle.std.proofs.Common.{◌≡◌, ◌≤◌, ◌+◌, ◌-◌, ℕ, Bool, true, false, ◌&&◌, if◌then◌else◌, List, [], ◌∷◌, ◌++◌, length, Option, Some, None, Result, Ok, Err, Bor, refl, sym, ap, ◌∙◌, subst, arith, append_assoc, append-nil}
use Rattle.elf32.specs.declared.units.Unit.{Unit}
use Rattle.elf32.specs.Units.{most_words, most_data}
use Rattle.a32_syntax.specs.declared.kinds.AsmKind.{AsmKind}
use Rattle.a32_asm.specs.declared.assembler.AsmFault.{AsmFault}
use Rattle.a32_asm.specs.declared.layout.Spot.{Spot}
use Rattle.a32_asm.specs.Lines.{lines_of, label_of, is_ascii, before_comment, head_of, statement_of}
use Rattle.a32_asm.specs.Layout.{Layout, next_spot, line_size, may_stand}
use Rattle.a32_asm.specs.Statements.{Piece, piece_of, line_piece}
use Rattle.a32_asm.specs.Assembled.{Before, first, site_of, is_known, is_too_long, first_fault, behind_line, outcome, added, followed, unit_from, most_text}
use Rattle.a32_asm.specs.inner.Seen.{lines_left, bytes_left, spot_behind, piece_seen}
use Rattle.a32_asm.specs.declared.lines.Line.{Line}
use Rattle.a32_asm.specs.declared.pieces.Added.{Added}
use Rattle.a32_syntax.specs.declared.kinds.AsmKind.TheVariants as kind
use Rattle.std.specs.Option.{option_map}
use Rattle.a32_asm.proofs.LaidLines.{spot_read}

-- what was added so far
abbrev pub piece : List ℕ → List ℕ → Piece
piece words bytes = record { words = words; bytes = bytes }

added_twice : (words bytes : List ℕ) (next : Piece) (later : Result Unit AsmFault)
    → added (piece (words ++ next.words) (bytes ++ next.bytes)) later ≡ added (piece words bytes) (added next later)
added_twice words bytes next (Ok unit) =
    ap (λ w. Ok (record { words = w; bytes = (bytes ++ next.bytes) ++ unit.bytes; space = unit.space })) (append_assoc words next.words unit.words)
    ∙ ap (λ b. Ok (record { words = words ++ (next.words ++ unit.words); bytes = b; space = unit.space })) (append_assoc bytes next.bytes unit.bytes)
added_twice words bytes next (Err fault) = refl

pub added_nothing : (later : Result Unit AsmFault) → added (piece [] []) later ≡ later
added_nothing (Ok unit) = refl
added_nothing (Err fault) = refl

-- what stands before the lines that are left
abbrev pub before_left : List ℕ → Spot → ℕ → ℕ → Before
before_left text spot number left = record { spot = spot; number = number; read = length text - left }

-- the last line may be empty, so behind it the number may be ahead by one more
abbrev pub slack : List (List ℕ) → ℕ
slack [] = 1
slack (line ∷ lines) = 0

-- what the lines that are left add gives what all lines give, and no limit is passed so far
pub record GoesOnAt (layout : Layout) (text words bytes : List ℕ) (spot : Spot) (number left : ℕ) (lines : List (List ℕ)) : Type 0 where
  pub unit : added (piece words bytes) (unit_from layout (before_left text spot number left) lines) ≡ unit_from layout first (lines_of text)
  pub within : left ≤ length text
  pub words_fit : spot.words ≤ most_words
  pub data_fits : spot.bytes + spot.space ≤ most_data
  pub text_fits : length text - left ≤ most_text
  pub counted : number ≤ length text - left + (1 + slack lines)
  pub small : number ≤ length text - left + 2

abbrev pub GoesOn : Layout → List ℕ → List ℕ → List ℕ → Spot → ℕ → Option (Bor (List ℕ)) → Type 0
GoesOn layout text words bytes spot number left = GoesOnAt layout text words bytes spot number (bytes_left left) (lines_left left)

pub unit_line : (layout : Layout) (before : Before) (line : List ℕ) (lines : List (List ℕ))
    → unit_from layout before (line ∷ lines) ≡ followed before.number (outcome layout before line lines) (unit_from layout (behind_line before line lines) lines)
unfolding unit_from
unit_line layout before line lines = refl

pub unit_none : (layout : Layout) (before : Before) → unit_from layout before [] ≡ Ok (record { words = []; bytes = []; space = before.spot.space })
unfolding unit_from
unit_none layout before = refl

-- ---- one line

faults_line : (read : Line) (line : List ℕ) (layout : Layout) (spot : Spot) → read.is_ascii ≡ is_ascii (before_comment line) → read.head ≡ head_of (statement_of line)
    → read.statement.now ≡ statement_of line
    → (if read.is_ascii && may_stand read.head spot then piece_of (site_of layout spot) spot.in_data read.head read.statement.now else Err kind.Syntax)
    ≡ line_piece (site_of layout spot) spot line
faults_line read line layout spot ascii head statement = rw (ascii, head, statement) refl

pub outcome_is : (layout : Layout) (text : List ℕ) (spot behind : Spot) (number : ℕ) (rest : Bor (List ℕ)) (line : List ℕ) (after : Option (Bor (List ℕ)))
    (read : Line) (repeated too_long : Bool) (piece found : Result Added AsmKind)
    → option_map (λ name. name.now) read.label ≡ label_of line
    → read.is_ascii ≡ is_ascii (before_comment line) → read.head ≡ head_of (statement_of line) → read.statement.now ≡ statement_of line
    → repeated ≡ is_known layout (length text - length rest.now) (option_map (λ name. name.now) read.label)
    → behind ≡ spot_behind spot read
    → too_long ≡ is_too_long behind (length text - bytes_left after)
    → piece_seen piece ≡ (if read.is_ascii && may_stand read.head spot then piece_of (site_of layout spot) spot.in_data read.head read.statement.now else Err kind.Syntax)
    → piece_seen found ≡ first_fault repeated too_long (piece_seen piece)
    → length rest.now ≡ line_size line (lines_left after) + bytes_left after
    → length rest.now ≤ length text
    → piece_seen found ≡ outcome layout (before_left text spot number (length rest.now)) line (lines_left after)
outcome_is layout text spot behind number rest line after read repeated too_long piece found label ascii head statement again moved long adds fault bytes within =
    let e : length text - bytes_left after ≡ length text - length rest.now + line_size line (lines_left after) = omega (arith, bytes, within) in
    let r : repeated ≡ is_known layout (length text - length rest.now) (label_of line) = again ∙ ap (is_known layout (length text - length rest.now)) label in
    let t : too_long ≡ is_too_long (next_spot spot line) (length text - length rest.now + line_size line (lines_left after)) =
    long ∙ ap (λ s. is_too_long s (length text - bytes_left after)) (moved ∙ spot_read spot read line ascii head statement) ∙ ap (is_too_long (next_spot spot line)) e in
    fault
    ∙ ap (λ b. first_fault b too_long (piece_seen piece)) r
    ∙ ap (λ b. first_fault (is_known layout (length text - length rest.now) (label_of line)) b (piece_seen piece)) t
    ∙ ap (first_fault (is_known layout (length text - length rest.now) (label_of line)) (is_too_long (next_spot spot line) (length text - length rest.now + line_size line (lines_left after))))
    (adds ∙ faults_line read line layout spot ascii head statement)

-- ---- a fault

pub fault_is : (layout : Layout) (text words bytes : List ℕ) (spot : Spot) (number : ℕ) (left after : Option (Bor (List ℕ))) (rest : Bor (List ℕ)) (line : List ℕ) (fault : AsmKind)
    → left ≡ Some rest
    → GoesOn layout text words bytes spot number left
    → lines_of rest.now ≡ line ∷ lines_left after
    → Err fault ≡ outcome layout (before_left text spot number (length rest.now)) line (lines_left after)
    → unit_from layout first (lines_of text) ≡ Err (record { line = number; kind = fault })
fault_is layout text words bytes spot number left after rest line fault is going lines out =
    let here : GoesOn layout text words bytes spot number (Some rest) = subst (GoesOn layout text words bytes spot number) is going in
    let before : Before = before_left text spot number (length rest.now) in
    sym here.unit
    ∙ ap (λ l. added (piece words bytes) (unit_from layout (before_left text spot number (length rest.now)) l)) lines
    ∙ ap (added (piece words bytes)) (unit_line layout (before_left text spot number (length rest.now)) line (lines_left after))
    ∙ ap (λ o. added (piece words bytes) (followed number o (unit_from layout (behind_line (before_left text spot number (length rest.now)) line (lines_left after)) (lines_left after)))) (sym out)

-- ---- the next line

pub not_long : (repeated long : Bool) (found : Piece) (adds : Result Piece AsmKind) → Ok found ≡ first_fault repeated long adds → long ≡ false
not_long true false found (Ok piece) h = refl
not_long false false found (Ok piece) h = refl
not_long true true found (Ok piece) h = cc
not_long false true found (Ok piece) h = cc
not_long repeated false found (Err fault) h = refl
not_long true true found (Err kind.Range) h = cc
not_long false true found (Err kind.Range) h = cc
not_long repeated true found (Err fault) h = cc

pub limits : (spot : Spot) (read : ℕ) → is_too_long spot read ≡ false → (spot.words ≤ most_words) × (spot.bytes + spot.space ≤ most_data) × (read ≤ most_text)
limits spot read h = grind (arith, h)

counts : (number read left most : ℕ) (line : List ℕ) (lines : List (List ℕ)) → number ≤ read + 1 → number + 1 ≤ read + line_size line lines + (1 + slack lines)
counts number read left most line [] h = omega (arith, h)
counts number read left most line (next ∷ lines) h = omega (arith, h)

module _ (layout : Layout) (text words bytes : List ℕ) (spot behind : Spot) (number : ℕ) (left after : Option (Bor (List ℕ))) (rest : Bor (List ℕ)) (line : List ℕ)
    (found : Piece) (repeated : Bool) (adds : Result Piece AsmKind)
    (is : left ≡ Some rest)
    (going : GoesOn layout text words bytes spot number left)
    (lines : lines_of rest.now ≡ line ∷ lines_left after)
    (lengths : length rest.now ≡ line_size line (lines_left after) + bytes_left after)
    (moved : behind ≡ next_spot spot line)
    (out : Ok found ≡ outcome layout (before_left text spot number (length rest.now)) line (lines_left after))
    (fault : Ok found ≡ first_fault repeated (is_too_long behind (length text - bytes_left after)) adds) where
  here : GoesOnAt layout text words bytes spot number (length rest.now) (lines_of rest.now)
  here = subst (GoesOn layout text words bytes spot number) is going

  abbrev read : ℕ
  read = length text - length rest.now

  read_next : length text - bytes_left after ≡ read + line_size line (lines_left after)
  read_next = omega (arith, lengths, here.within)

  before_next : before_left text behind (number + 1) (bytes_left after) ≡ behind_line (before_left text spot number (length rest.now)) line (lines_left after)
  before_next =
      ap (λ s. record { spot = s; number = number + 1; read = length text - bytes_left after }) moved
      ∙ ap (λ r. record { spot = next_spot spot line; number = number + 1; read = r }) read_next

  within_limits : (behind.words ≤ most_words) × (behind.bytes + behind.space ≤ most_data) × (length text - bytes_left after ≤ most_text)
  within_limits = limits behind (length text - bytes_left after) (not_long repeated (is_too_long behind (length text - bytes_left after)) found adds fault)

  number_here : number ≤ read + 1
  number_here = let h : number ≤ read + (1 + slack (lines_of rest.now)) = here.counted in
      let e : slack (lines_of rest.now) ≡ 0 = ap slack lines in omega (arith, h, e)

  number_next : number + 1 ≤ length text - bytes_left after + (1 + slack (lines_left after))
  number_next = subst (λ r. number + 1 ≤ r + (1 + slack (lines_left after))) (sym read_next) (counts number read 0 0 line (lines_left after) number_here)

  unit_next : added (piece (words ++ found.words) (bytes ++ found.bytes)) (unit_from layout (before_left text behind (number + 1) (bytes_left after)) (lines_left after))
      ≡ unit_from layout first (lines_of text)
  unit_next =
      ap (λ b. added (piece (words ++ found.words) (bytes ++ found.bytes)) (unit_from layout b (lines_left after))) before_next
      ∙ added_twice words bytes found (unit_from layout (behind_line (before_left text spot number (length rest.now)) line (lines_left after)) (lines_left after))
      ∙ ap (λ o. added (piece words bytes) (followed number o (unit_from layout (behind_line (before_left text spot number (length rest.now)) line (lines_left after)) (lines_left after)))) out
      ∙ ap (added (piece words bytes)) (sym (unit_line layout (before_left text spot number (length rest.now)) line (lines_left after)))
      ∙ ap (λ l. added (piece words bytes) (unit_from layout (before_left text spot number (length rest.now)) l)) (sym lines)
      ∙ here.unit

  pub goes_on : (all_words all_bytes : List ℕ) → all_words ≡ words ++ found.words → all_bytes ≡ bytes ++ found.bytes
      → GoesOn layout text all_words all_bytes behind (number + 1) after
  goes_on all_words all_bytes w b = record {
    unit = ap (λ p. added p (unit_from layout (before_left text behind (number + 1) (bytes_left after)) (lines_left after)))
        (ap (λ l. piece l all_bytes) w ∙ ap (piece (words ++ found.words)) b) ∙ unit_next;
    within = omega (arith, lengths, here.within);
    words_fit = within_limits.0;
    data_fits = within_limits.1;
    text_fits = within_limits.2;
    counted = number_next;
    small = omega (arith, number_here, read_next);
  }

-- ---- the end

pub unit_done : (layout : Layout) (text words bytes : List ℕ) (spot : Spot) (number : ℕ) (left : Option (Bor (List ℕ))) (unit : Unit) → left ≡ None
    → GoesOn layout text words bytes spot number left → unit.words ≡ words → unit.bytes ≡ bytes → unit.space ≡ spot.space
    → unit_from layout first (lines_of text) ≡ Ok unit
unit_done layout text words bytes spot number left unit is going w b s =
    let here : GoesOn layout text words bytes spot number None = subst (GoesOn layout text words bytes spot number) is going in
    sym here.unit
    ∙ ap (added (piece words bytes)) (unit_none layout (before_left text spot number 0))
    ∙ ap (λ l. Ok (record { words = l; bytes = bytes ++ []; space = spot.space })) (append-nil words ∙ sym w)
    ∙ ap (λ l. Ok (record { words = unit.words; bytes = l; space = spot.space })) (append-nil bytes ∙ sym b)
    ∙ ap (λ n. Ok (record { words = unit.words; bytes = unit.bytes; space = n })) (sym s)

pub rest_within : (layout : Layout) (text words bytes : List ℕ) (spot : Spot) (number : ℕ) (left : Option (Bor (List ℕ))) (rest : Bor (List ℕ)) → left ≡ Some rest
    → GoesOn layout text words bytes spot number left → length rest.now ≤ length text
rest_within layout text words bytes spot number left rest is going =
    let here : GoesOn layout text words bytes spot number (Some rest) = subst (GoesOn layout text words bytes spot number) is going in here.within
