-- The header of a 32-bit ELF file and its program headers (System V gABI, ELF Header and Program Header), as far as they
-- are looked at. Numbers have their least significant byte first.
use Rattle.std.specs.Prelude.{ℕ, zero, suc, ◌+◌, ◌-◌, ◌*◌, ◌/◌, ◌%◌, ◌==◌, ◌&&◌, not, Bool, List, [], ◌∷◌, ◌++◌, drop, filter}
use Rattle.byteorder.specs.Endian.{little_number}
use Rattle.elf32.specs.declared.headers.ProgramHeader.{ProgramHeader}

-- the number of 16 bits, and the one of 32 bits, at an offset of a file
abbrev pub half_at : List ℕ → ℕ → ℕ
half_at file offset = little_number 2 (drop offset file)

abbrev pub word_at : List ℕ → ℕ → ℕ
word_at file offset = little_number 4 (drop offset file)

-- the bytes of the file's header, and of a program header
abbrev pub header_size : ℕ
header_size = 52

abbrev pub entry_size : ℕ
entry_size = 32

-- The fields of the file's header: e_type, e_machine, e_entry, e_phoff, e_phentsize and e_phnum.

abbrev pub file_type : List ℕ → ℕ
file_type file = half_at file 16

abbrev pub machine : List ℕ → ℕ
machine file = half_at file 18

abbrev pub entry_field : List ℕ → ℕ
entry_field file = word_at file 24

abbrev pub table_offset : List ℕ → ℕ
table_offset file = word_at file 28

abbrev pub table_entry_size : List ℕ → ℕ
table_entry_size file = half_at file 42

abbrev pub table_count : List ℕ → ℕ
table_count file = half_at file 44

-- the program header at an offset: p_type, p_offset, p_vaddr, p_filesz, p_memsz and p_flags; p_paddr and p_align, at 12
-- and 28, are passed over
unfoldable pub header_at : List ℕ → ℕ → ProgramHeader
header_at file offset = record {
  kind = word_at file offset;
  offset = word_at file (offset + 4);
  address = word_at file (offset + 8);
  file_size = word_at file (offset + 16);
  memory_size = word_at file (offset + 20);
  flags = word_at file (offset + 24);
}

-- the first so many program headers of a table
abbrev pub headers_from : List ℕ → ℕ → ℕ → List ProgramHeader
headers_from file table zero = []
headers_from file table (suc count) = headers_from file table count ++ header_at file (table + entry_size * count) ∷ []

-- the program headers of a file
unfoldable pub headers_of : List ℕ → List ProgramHeader
headers_of file = headers_from file (table_offset file) (table_count file)

-- a segment is a header of type PT_LOAD that takes memory
abbrev pub is_segment : ProgramHeader → Bool
is_segment header = (header.kind == 1) && not (header.memory_size == 0)

unfoldable pub segments_of : List ℕ → List ProgramHeader
segments_of file = filter is_segment (headers_of file)

-- the flags PF_X, the lowest, and PF_W, the one above it
abbrev pub runs : ProgramHeader → Bool
runs header = header.flags % 2 == 1

abbrev pub writes : ProgramHeader → Bool
writes header = header.flags / 2 % 2 == 1

-- the first address behind a segment in memory
abbrev pub end_of : ProgramHeader → ℕ
end_of header = header.address + header.memory_size

-- the address of the first instruction: e_entry, whose lowest bit says Thumb and is no part of the address
abbrev pub entry_address : List ℕ → ℕ
entry_address file = entry_field file - entry_field file % 2
