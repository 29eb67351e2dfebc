-- What `dis` answers for the bytes of a file.
use Rattle.std.specs.Prelude.{ℕ, ◌*◌, ◌/◌, List, [], ◌++◌, length, Option, Some, None, codes}
use Rattle.std.specs.List.{flat_map, range_with_len}
use Rattle.llsc_base.specs.Images.{Program, word_at}
use Rattle.number_text.specs.Hexadecimal.{word_text}
use Rattle.a32_asm.specs.Shown.{shown_word}
use Rattle.llsc_words.specs.declared.formats.Format.{Format}
use Rattle.llsc_files.specs.Programs.{image_of, program_refusal}
use Rattle.llsc_files.specs.Refusals.{Answer, Is, solo_size, unless}

-- the line of a word at an address: both as digits, and what the word means there
abbrev pub head_text : ℕ → ℕ → List ℕ
head_text addr word = (word_text addr ++ codes " ") ++ (word_text word ++ codes " ")

abbrev pub word_line : ℕ → ℕ → List ℕ
word_line addr word = head_text addr word ++ (shown_word word addr ++ codes "\n")

-- the line at an address, if an instruction may be run there
abbrev pub line_for : ℕ → Option ℕ → List ℕ
line_for addr None = []
line_for addr (Some word) = word_line addr word

abbrev pub line_at : Program → ℕ → List ℕ
line_at program addr = line_for addr (word_at program addr)

-- the lines at the addresses 0, 4, 8 and so on, so many of them
abbrev pub lines_of : Program → ℕ → List ℕ
lines_of program count = flat_map (λ i. line_at program (4 * i)) (range_with_len 0 count)

-- the lines of all of memory
abbrev pub disassembly : Program → List ℕ
disassembly program = lines_of program (length program.bytes / 4)

-- the status and the text
abbrev pub dis_answer : Format → ℕ → List ℕ → Answer
dis_answer format mem file =
    unless (program_refusal format (solo_size mem) file) (record { status = 0; text = disassembly (image_of format file (solo_size mem)) })

abbrev pub AnswersDis : Format → ℕ → List ℕ → ℕ → List ℕ → Type 0
AnswersDis format mem file status text = Is (dis_answer format mem file) status text
