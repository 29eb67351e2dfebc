-- What `asm` answers for the bytes of a file.
use Rattle.std.specs.Prelude.{ℕ, ◌||◌, nat_lt, if◌then◌else◌, Bool, List, ◌++◌, length, Option, Some, None, Result, Ok, Err, Vec, string_bytes, ◌≡◌, codes}
use Rattle.std.specs.Fmt.{decimal}
use Rattle.std.specs.Global.{Global}
use Rattle.std.specs.Option.{option_or}
use Rattle.std.specs.Str.{is_utf8}
use Rattle.elf32.specs.Units.{code_bytes}
use Rattle.elf32.specs.Written.{written_file}
use Rattle.elf32.specs.declared.units.Unit.{Unit}
use Rattle.a32_syntax.specs.Kinds.{kind_name}
use Rattle.a32_asm.specs.declared.assembler.AsmFault.{AsmFault}
use Rattle.a32_asm.specs.Assembled.{most_text, unit_of}
use Rattle.llsc_words.specs.declared.formats.Format.{Format}
use Rattle.llsc_words.specs.declared.formats.Format.TheVariants.{Elf, Flat}
use Rattle.llsc_files.specs.declared.refusals.Refusal.{Refusal}
use Rattle.llsc_files.specs.declared.refusals.Refusal.TheVariants.{Said, Memory}
use Rattle.llsc_files.specs.Refusals.{Answer, Is, refused, unless, too_long}

-- a text is UTF-8
abbrev pub not_text : List ℕ → Option (List ℕ)
not_text file = if is_utf8 file then None else Some (codes "NotText")

-- what stands against the file of a text: its length, or that it is no text
abbrev pub text_refusal : List ℕ → Option (List ℕ)
text_refusal file = option_or (too_long most_text file) (not_text file)

-- a fault is named by its line and its kind
abbrev pub asm_fault_text : AsmFault → List ℕ
asm_fault_text fault = codes "line " ++ (decimal fault.line ++ (codes " " ++ kind_name fault.kind))

-- a program has data, or space for it
abbrev pub has_data : Unit → Bool
has_data unit = nat_lt 0 (length unit.bytes) || nat_lt 0 unit.space

-- what stands against a program as a file of a format: a flat image has code alone
abbrev pub unit_refusal : Format → Unit → Option (List ℕ)
unit_refusal Elf unit = None
unit_refusal Flat unit = if has_data unit then Some (codes "FlatData") else None

-- the file of a program: an ELF file, or the words of the code and nothing else
abbrev pub unit_file : Format → Unit → List ℕ
unit_file Elf unit = written_file unit
unit_file Flat unit = code_bytes unit.words

abbrev pub unit_answer : Format → Unit → Answer
unit_answer format unit = unless (unit_refusal format unit) (record { status = 0; text = unit_file format unit })

abbrev pub text_answer : Format → Result Unit AsmFault → Answer
text_answer format (Ok unit) = unit_answer format unit
text_answer format (Err fault) = refused (asm_fault_text fault)

-- the status and the text
abbrev pub asm_answer : Format → List ℕ → Answer
asm_answer format file = unless (text_refusal file) (text_answer format (unit_of file))

abbrev pub AnswersAsm : Format → List ℕ → ℕ → List ℕ → Type 0
AnswersAsm format file status text = Is (asm_answer format file) status text

-- what is given for an answer: the file with which it ends well, its refusal, or want of memory
abbrev pub IsGiven : Answer → Result (Vec ℕ Global) Refusal → Type 0
IsGiven answer (Ok file) = answer ≡ record { status = 0; text = file.items }
IsGiven answer (Err (Said text)) = answer ≡ record { status = 4; text = string_bytes text }
IsGiven answer (Err Memory) = Prim.Unit {0}
