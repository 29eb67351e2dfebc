-- What stands against an ELF file, in the order in which it is looked for. The values are those of the System V gABI: a
-- file of 32 bits (ELFCLASS32), least significant byte first (ELFDATA2LSB), an executable (ET_EXEC), for the processor of a
-- given number (e_machine).
use Rattle.std.specs.Prelude.{ℕ, ◌+◌, ◌*◌, ◌%◌, ◌==◌, ◌&&◌, ◌||◌, not, nat_eq, nat_le, nat_lt, max, min, if◌then◌else◌, Bool, false, List, [], ◌∷◌, length, slice_index, Option, Some, None, codes}
use Rattle.std.specs.List.{list_any, starts_with}
use Rattle.std.specs.Option.{option_or}
use Rattle.llsc_base.specs.Sizes.{Numbers, room_of}
use Rattle.llsc_base.specs.Flat.{elf_magic}
use Rattle.elf32.specs.declared.headers.ProgramHeader.{ProgramHeader}
use Rattle.elf32.specs.declared.faults.ElfFault.{ElfFault}
use Rattle.elf32.specs.declared.faults.ElfFault.TheVariants as fault
use Rattle.elf32.specs.Headers.{header_size, entry_size, file_type, machine, entry_field, table_offset, table_entry_size, table_count, headers_of, segments_of, runs, writes, end_of, entry_address}

-- the fault of the first test that holds
abbrev pub first_of : List (Bool × ElfFault) → Option ElfFault
first_of [] = None
first_of (row ∷ rows) = if row.0 then Some row.1 else first_of rows

-- program headers of another size, none of them or more than 64, or a table that reaches past the file
abbrev pub has_bad_table : List ℕ → Bool
has_bad_table file =
    not (table_entry_size file == entry_size)
    || ((table_count file == 0) || nat_lt 64 (table_count file))
    || nat_lt (length file) (table_offset file + entry_size * table_count file)

-- a header of type PT_DYNAMIC or PT_INTERP
abbrev pub is_dynamic : ProgramHeader → Bool
is_dynamic header = (header.kind == 2) || (header.kind == 3)

-- both run and written
abbrev pub is_writable_code : ProgramHeader → Bool
is_writable_code segment = runs segment && writes segment

-- memory past the room
abbrev pub is_past : ℕ → ProgramHeader → Bool
is_past room segment = nat_lt room (end_of segment)

-- more bytes in the file than in memory, or bytes past the file's end
abbrev pub is_unstored : ℕ → ProgramHeader → Bool
is_unstored count segment =
    nat_lt segment.memory_size segment.file_size || nat_lt count (segment.offset + segment.file_size)

-- some address lies in both
abbrev pub share : ProgramHeader → ProgramHeader → Bool
share one other = nat_lt (max one.address other.address) (min (end_of one) (end_of other))

-- two of them share an address
abbrev pub overlap : List ProgramHeader → Bool
overlap [] = false
overlap (segment ∷ segments) = list_any (share segment) segments || overlap segments

-- the four bytes at an address lie in a segment that is run
abbrev pub has_code_at : ℕ → ProgramHeader → Bool
has_code_at addr segment = runs segment && (nat_le segment.address addr && nat_le (addr + 4) (end_of segment))

-- no code of four bytes stands at the first instruction, or it is no word's address and not Thumb's
abbrev pub is_bad_entry : List ℕ → List ProgramHeader → Bool
is_bad_entry file segments =
    not (list_any (has_code_at (entry_address file)) segments)
    || ((entry_field file % 2 == 0) && not (entry_address file % 4 == 0))

-- the faults of the file's header, where it is to be for the processor of this number
unfoldable pub header_fault : ℕ → List ℕ → Option ElfFault
header_fault number file = first_of (
    (nat_lt (length file) header_size, fault.Short) ∷
    (not (starts_with nat_eq file elf_magic), fault.Magic) ∷
    (not (slice_index file 4 == 1), fault.Class) ∷
    (not (slice_index file 5 == 1), fault.DataOrder) ∷
    (not (file_type file == 2), fault.FileType) ∷
    (not (machine file == number), fault.Machine) ∷
    (has_bad_table file, fault.Headers) ∷
    [])

-- the faults of the program headers, where memory has so much room
unfoldable pub program_fault : ℕ → List ℕ → Option ElfFault
program_fault room file = first_of (
    (list_any is_dynamic (headers_of file), fault.Dynamic) ∷
    (list_any is_writable_code (segments_of file), fault.WritableCode) ∷
    (not (list_any runs (segments_of file)), fault.NoCode) ∷
    (list_any (is_past room) (segments_of file), fault.SegmentBounds) ∷
    (list_any (is_unstored (length file)) (segments_of file), fault.FileBounds) ∷
    (overlap (segments_of file), fault.Overlap) ∷
    (is_bad_entry file (segments_of file), fault.Entry) ∷
    (entry_field file % 2 == 1, fault.ThumbEntry) ∷
    [])

-- the first fault of a file for the processor of this number, and for a machine of this size
unfoldable pub first_fault_as : ℕ → List ℕ → Numbers → Option ElfFault
first_fault_as number file size = option_or (header_fault number file) (program_fault (room_of size) file)

-- the same for Arm (EM_ARM)
abbrev pub first_fault : List ℕ → Numbers → Option ElfFault
first_fault file size = first_fault_as 40 file size

-- a fault's name
abbrev pub elf_fault_name : ElfFault → List ℕ
elf_fault_name fault.Short = codes "Short"
elf_fault_name fault.Magic = codes "Magic"
elf_fault_name fault.Class = codes "Class"
elf_fault_name fault.DataOrder = codes "DataOrder"
elf_fault_name fault.FileType = codes "FileType"
elf_fault_name fault.Machine = codes "Machine"
elf_fault_name fault.Headers = codes "Headers"
elf_fault_name fault.Dynamic = codes "Dynamic"
elf_fault_name fault.WritableCode = codes "WritableCode"
elf_fault_name fault.NoCode = codes "NoCode"
elf_fault_name fault.SegmentBounds = codes "SegmentBounds"
elf_fault_name fault.FileBounds = codes "FileBounds"
elf_fault_name fault.Overlap = codes "Overlap"
elf_fault_name fault.Entry = codes "Entry"
elf_fault_name fault.ThumbEntry = codes "ThumbEntry"
elf_fault_name fault.Memory = codes "Memory"
