-- The numbers of a written file: its header's, its program headers', and where its code and data stand.
use Rattle.std.proofs.Common.{◌≡◌, ℕ, ◌+◌, ◌*◌, List, [], ◌∷◌, ◌++◌, length, refl, ap, ◌∙◌, arith, None, length-append}
use Rattle.llsc_base.specs.Memory.{bytes_of}
use Rattle.elf32.specs.declared.units.Unit.{Unit}
use Rattle.elf32.specs.declared.headers.ProgramHeader.{ProgramHeader}
use Rattle.llsc_base.specs.Limits.{code_start}
use Rattle.elf32.specs.Units.{IsWithin, code_bytes, data_of, data_size}
use Rattle.elf32.specs.Written.{written_file, code_offset, file_header, code_header, data_header}
use Rattle.elf32.specs.Headers.{headers_of, headers_from, header_at, entry_field, table_count, table_offset}
use Rattle.elf32.specs.Faults.{header_fault}
use Rattle.std.proofs.lemmas.Grind.{common_steps}
use Rattle.elf32.proofs.Cells.{word_again, length-code_bytes}

-- A header of code of this size, and one of data: its offset and address, and its bytes in the file and in memory.
abbrev pub code_at : ℕ → ProgramHeader
code_at size = record { kind = 1; offset = 116; address = 4096; file_size = size; memory_size = size; flags = 5 }

abbrev pub data_at : ℕ → ℕ → ℕ → ℕ → ProgramHeader
data_at offset address stored size =
    record { kind = 1; offset = offset; address = address; file_size = stored; memory_size = size; flags = 6 }

same_data : (a b c d e f g h : ℕ) → a ≡ b → c ≡ d → e ≡ f → g ≡ h → data_at a c e g ≡ data_at b d f h
same_data a b c d e f g h one two three four = rw (one, two, three, four) refl

-- the program headers that are written
abbrev pub code_segment : Unit → ProgramHeader
code_segment unit = code_at (4 * length unit.words)

abbrev pub data_segment : Unit → ProgramHeader
data_segment unit = data_at (code_offset + 4 * length unit.words) (data_of unit) (length unit.bytes) (data_size unit)

pub entry_is : (unit : Unit) → entry_field (written_file unit) ≡ code_start
unfolding written_file bytes_of
entry_is unit = refl

pub table_is : (unit : Unit) → table_offset (written_file unit) ≡ 52
unfolding written_file bytes_of
table_is unit = refl

pub count_is : (unit : Unit) → table_count (written_file unit) ≡ 2
unfolding written_file bytes_of
count_is unit = refl

code_header_is : (unit : Unit) → IsWithin unit → header_at (written_file unit) 52 ≡ code_segment unit
unfolding written_file bytes_of header_at
code_header_is unit within = ap code_at (word_again (4 * length unit.words) (omega (arith, within.code)))

data_header_is : (unit : Unit) → IsWithin unit → header_at (written_file unit) 84 ≡ data_segment unit
unfolding written_file bytes_of header_at
data_header_is unit within =
    same_data _ _ _ _ _ _ _ _
    (word_again (code_offset + 4 * length unit.words) (omega (arith, within.code)))
    (word_again (data_of unit) (omega (arith, within.code)))
    (word_again (length unit.bytes) (omega (arith, within.bytes)))
    (word_again (data_size unit) (omega (arith, within.bytes)))

two_headers : (unit : Unit) → IsWithin unit → headers_from (written_file unit) 52 2 ≡ code_segment unit ∷ data_segment unit ∷ []
two_headers unit within = rw (code_header_is unit within, data_header_is unit within) refl

pub headers_are : (unit : Unit) → IsWithin unit → headers_of (written_file unit) ≡ code_segment unit ∷ data_segment unit ∷ []
unfolding headers_of
headers_are unit within =
    ap (λ (table : ℕ). headers_from (written_file unit) table (table_count (written_file unit))) (table_is unit)
    ∙ ap (headers_from (written_file unit) 52) (count_is unit)
    ∙ two_headers unit within

pub length_is : (unit : Unit) → length (written_file unit) ≡ code_offset + 4 * length unit.words + length unit.bytes
unfolding written_file bytes_of
length_is unit = omega (arith, length-append (code_bytes unit.words) unit.bytes, length-code_bytes unit.words)

pub no_header_fault : (unit : Unit) → header_fault 40 (written_file unit) ≡ None
unfolding written_file bytes_of header_fault
no_header_fault unit = grind (arith, common_steps)

-- what stands in front of the code
abbrev pub front_of : Unit → List ℕ
front_of unit = file_header ++ (code_header unit ++ data_header unit)

pub length_front : (unit : Unit) → length (front_of unit) ≡ code_offset
unfolding bytes_of
length_front unit = refl

pub parts_are : (unit : Unit) → written_file unit ≡ front_of unit ++ (code_bytes unit.words ++ unit.bytes)
unfolding written_file bytes_of
parts_are unit = refl
