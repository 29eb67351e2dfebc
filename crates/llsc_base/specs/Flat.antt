-- A flat file: instruction words and nothing else, which stand in memory from 0x1000 up.
use Rattle.std.specs.Prelude.{ℕ, ◌+◌, ◌-◌, ◌%◌, ◌==◌, ◌&&◌, ◌||◌, nat_le, nat_lt, if◌then◌else◌, true, false, Option, Some, None, List, [], ◌∷◌, length, slice_index, map, not, codes, nat_eq}
use Rattle.std.specs.List.{range_with_len, starts_with}
use Rattle.llsc_base.specs.Limits.{code_start}
use Rattle.llsc_base.specs.Sizes.{Numbers, room_of}
use Rattle.llsc_base.specs.Images.{Program}
use Rattle.llsc_base.specs.declared.flat.FlatFault.{FlatFault}
use Rattle.llsc_base.specs.declared.flat.FlatFault.TheVariants as fault

-- the four bytes with which an ELF file begins (System V gABI, ELF identification)
abbrev pub elf_magic : List ℕ
elf_magic = 0x7f ∷ 0x45 ∷ 0x4c ∷ 0x46 ∷ []

-- the first fault of a flat file for a machine of this size
abbrev pub flat_fault : List ℕ → Numbers → Option FlatFault
flat_fault file size =
    if starts_with nat_eq file elf_magic then Some fault.Elf else
    if (length file == 0) || not (length file % 4 == 0) then Some fault.Length else
    if nat_lt (room_of size) (code_start + length file) then Some fault.TooLong else
    None

-- the byte of memory at an address: the file's from 0x1000 on, and 0 elsewhere
abbrev pub flat_byte : List ℕ → ℕ → ℕ
flat_byte file addr =
    if nat_le code_start addr && nat_lt addr (code_start + length file) then slice_index file (addr - code_start) else 0

-- a function's values at 0, 1, .. below a number
unfoldable pub values_below : ℕ → (ℕ → ℕ) → List ℕ
values_below count f = map f (range_with_len 0 count)

-- the image of a flat file: its bytes in one span that is run and not written, begun at its first word
abbrev pub flat_image : List ℕ → Numbers → Program
flat_image file size = record {
  bytes = values_below size.mem (flat_byte file);
  spans = record { start = code_start; end = code_start + length file; run = true; write = false } ∷ [];
  entry = code_start;
}

-- a fault's name
abbrev pub flat_fault_name : FlatFault → List ℕ
flat_fault_name fault.Elf = codes "Elf"
flat_fault_name fault.Length = codes "Length"
flat_fault_name fault.TooLong = codes "TooLong"
flat_fault_name fault.Memory = codes "Memory"
