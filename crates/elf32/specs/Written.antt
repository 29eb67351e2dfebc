-- The ELF file that is written of a program: its header, a program header for the code and one for the data, the code,
-- and the data (System V gABI, ELF Header and Program Header; ELF for the Arm Architecture for e_flags).
use Rattle.std.specs.Prelude.{ℕ, ◌+◌, ◌*◌, List, [], ◌∷◌, ◌++◌, length, replicate}
use Rattle.std.specs.List.{flat_map}
use Rattle.llsc_base.specs.Memory.{bytes_of}
use Rattle.llsc_base.specs.Flat.{elf_magic}
use Rattle.elf32.specs.declared.units.Unit.{Unit}
use Rattle.llsc_base.specs.Limits.{code_start}
use Rattle.elf32.specs.Units.{code_bytes, data_of, data_size}

-- numbers of 16 and of 32 bits, one after another
abbrev pub halves : List ℕ → List ℕ
halves numbers = flat_map (bytes_of 2) numbers

abbrev pub words : List ℕ → List ℕ
words numbers = flat_map (bytes_of 4) numbers

-- where the code stands in the file: behind the header and the two program headers
abbrev pub code_offset : ℕ
code_offset = 116

-- 32 bits, least significant byte first, version 1; an executable for Arm, version 1, which begins at the code, with its
-- program headers behind this header and no sections, flags of the Arm EABI version 5; the sizes of both kinds of
-- headers, and two of them
abbrev pub file_header : List ℕ
file_header =
    (elf_magic ++ (1 ∷ 1 ∷ 1 ∷ replicate 9 0))
    ++ (halves (2 ∷ 40 ∷ [])
    ++ (words (1 ∷ code_start ∷ 52 ∷ 0 ∷ 0x05000000 ∷ [])
    ++ halves (52 ∷ 32 ∷ 2 ∷ 0 ∷ 0 ∷ 0 ∷ [])))

-- a program header of type PT_LOAD: offset, address (twice), bytes in the file and in memory, flags, alignment
abbrev pub program_header : ℕ → ℕ → ℕ → ℕ → ℕ → List ℕ
program_header offset address file_size memory_size flags =
    words (1 ∷ offset ∷ address ∷ address ∷ file_size ∷ memory_size ∷ flags ∷ 4 ∷ [])

-- the code is read and run (5), the data is read and written (6)
abbrev pub code_header : Unit → List ℕ
code_header unit = program_header code_offset code_start (4 * length unit.words) (4 * length unit.words) 5

abbrev pub data_header : Unit → List ℕ
data_header unit =
    program_header (code_offset + 4 * length unit.words) (data_of unit) (length unit.bytes) (data_size unit) 6

-- the file of a program
unfoldable pub written_file : Unit → List ℕ
written_file unit = file_header ++ (code_header unit ++ (data_header unit ++ (code_bytes unit.words ++ unit.bytes)))
