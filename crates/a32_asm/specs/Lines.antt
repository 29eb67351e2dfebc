-- The lines of a text: a label, a statement and a comment, each of which may be left out.
use Rattle.std.specs.Prelude.{ℕ, ◌==◌, ◌&&◌, nat_lt, if◌then◌else◌, Bool, false, List, [], ◌∷◌, drop, Option, Some, None, codes}
use Rattle.std.specs.List.{slice_split, list_all}
use Rattle.std.specs.Str.{bytes_eq}
use Rattle.a32_forms.specs.Cuts.{before_code}
use Rattle.a32_forms.specs.Text.{front_word, after_word, after_blanks, is_name}
use Rattle.a32_asm.specs.declared.heads.Head.{Head}
use Rattle.a32_asm.specs.declared.heads.Head.TheVariants.{Nothing, Text, Data, Word, Byte, Space, Instruction, Unreadable}

-- the lines of a text: each but the last ends with a newline
abbrev pub lines_of : List ℕ → List (List ℕ)
lines_of text = slice_split (λ code. code == 10) text

-- a line up to its comment, which an `@` begins
abbrev pub before_comment : List ℕ → List ℕ
before_comment line = before_code 64 line

abbrev pub is_ascii : List ℕ → Bool
is_ascii text = list_all (λ code. nat_lt code 128) text

-- a text begins with this byte
abbrev pub begins_with : ℕ → List ℕ → Bool
begins_with wanted [] = false
begins_with wanted (code ∷ text) = code == wanted

-- a text begins with a label: a name, and a colon right behind it
abbrev pub has_label : List ℕ → Bool
has_label text = is_name (front_word text) && begins_with 58 (after_word text)

-- a line without its comment and the blanks in front
abbrev pub front_of : List ℕ → List ℕ
front_of line = after_blanks (before_comment line)

-- the label of a line
abbrev pub label_of : List ℕ → Option (List ℕ)
label_of line = if has_label (front_of line) then Some (front_word (front_of line)) else None

-- the statement of a line: what stands behind its label
abbrev pub statement_of : List ℕ → List ℕ
statement_of line = if has_label (front_of line) then after_blanks (drop 1 (after_word (front_of line))) else front_of line

-- a directive by the word behind its point
abbrev pub directive : List ℕ → Head
directive word =
    if bytes_eq word (codes "text") then Text else
    if bytes_eq word (codes "data") then Data else
    if bytes_eq word (codes "word") then Word else
    if bytes_eq word (codes "byte") then Byte else
    if bytes_eq word (codes "space") then Space else
    Unreadable

-- what a statement is: one that begins with a second label can't be read; a directive begins with a point, an
-- instruction with a name
abbrev pub head_of : List ℕ → Head
head_of [] = Nothing
head_of (code ∷ text) =
    if has_label (code ∷ text) then Unreadable else
    if code == 46 then directive (front_word text) else
    if is_name (front_word (code ∷ text)) then Instruction else
    Unreadable

-- the operands of a directive and of an instruction stand behind its word
abbrev pub operands_of : List ℕ → List ℕ
operands_of [] = []
operands_of (code ∷ text) = if code == 46 then after_word text else after_word (code ∷ text)
