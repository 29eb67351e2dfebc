-- A program's file, of either format: what stands against it on a machine, and the image that it gives.
use Rattle.std.specs.Prelude.{◌≡◌, ℕ, List, length, Bool, true, false, IsTrue, Option, Some, None}
use Rattle.std.specs.Option.{option_map, option_or}
use Rattle.llsc_base.specs.Sizes.{Numbers}
use Rattle.llsc_base.specs.Images.{Program}
use Rattle.llsc_base.specs.Flat.{flat_fault, flat_fault_name, flat_image}
use Rattle.llsc_base.specs.declared.flat.FlatFault.TheVariants as flat_fault
use Rattle.elf32.specs.Faults.{first_fault_as, elf_fault_name}
use Rattle.elf32.specs.Image.{image_of as elf_image}
use Rattle.elf32.specs.declared.faults.ElfFault.TheVariants as elf_fault
use Rattle.llsc_words.specs.declared.formats.Format.{Format}
use Rattle.llsc_words.specs.declared.formats.Format.TheVariants.{Elf, Flat}
use Rattle.llsc_words.specs.declared.sets.SetName.{SetName}
use Rattle.llsc_words.specs.declared.sets.SetName.TheVariants.{A32, Rv32}
use Rattle.llsc_files.specs.declared.files.Loaded.{Loaded}
use Rattle.llsc_files.specs.declared.programs.ProgramFault.{ProgramFault}
use Rattle.llsc_files.specs.declared.programs.ProgramFault.TheVariants as fault
use Rattle.llsc_files.specs.Refusals.{too_long, most_program, size_refusal}

-- the number (e_machine) by which an ELF file is for a processor of that instruction set: EM_ARM, and EM_RISCV
abbrev pub elf_machine : SetName → ℕ
elf_machine A32 = 40
elf_machine Rv32 = 243

-- what stands against a file of that instruction set on a machine: the first fault that its format has; a flat file names no set
abbrev pub refusal_as : SetName → Format → Numbers → List ℕ → Option (List ℕ)
refusal_as set Elf size file = option_map elf_fault_name (first_fault_as (elf_machine set) file size)
refusal_as set Flat size file = option_map flat_fault_name (flat_fault file size)

-- the same for A32
abbrev pub refusal_on : Format → Numbers → List ℕ → Option (List ℕ)
refusal_on = refusal_as A32

-- what stands against a file as a program of that instruction set, of a machine of these numbers: that there is no such machine,
-- the file's length, or its first fault there
abbrev pub program_refusal_as : SetName → Format → Numbers → List ℕ → Option (List ℕ)
program_refusal_as set format size file =
    option_or (size_refusal size) (option_or (too_long most_program file) (refusal_as set format size file))

-- the same for A32
abbrev pub program_refusal : Format → Numbers → List ℕ → Option (List ℕ)
program_refusal = program_refusal_as A32

-- the image of a file on a machine, whatever its instructions are
abbrev pub image_of : Format → List ℕ → Numbers → Program
image_of Elf file size = elf_image file size
image_of Flat file size = flat_image file size

-- the name of a fault of either format
abbrev pub program_fault_name : ProgramFault → List ℕ
program_fault_name (fault.Elf fault) = elf_fault_name fault
program_fault_name (fault.Flat fault) = flat_fault_name fault

-- a fault that the file doesn't have: memory is wanting for its image
abbrev pub is_wanting : ProgramFault → Bool
is_wanting (fault.Elf elf_fault.Memory) = true
is_wanting (fault.Flat flat_fault.Memory) = true
is_wanting _ = false

-- a fault is the one that stands against the file; where none does, memory is wanting
abbrev pub IsFaultBy : Option (List ℕ) → ProgramFault → Type 0
IsFaultBy (Some name) fault = program_fault_name fault ≡ name
IsFaultBy None fault = IsTrue (is_wanting fault)

-- a file of that instruction set was loaded on a machine of these numbers: there is such a machine, nothing stands against the file,
-- and this is its image
pub record IsLoadedAs (set : SetName) (format : Format) (size : Numbers) (file : List ℕ) (loaded : Loaded) : Type 0 where
  pub sized : loaded.size ≡ size
  pub sound : program_refusal_as set format size file ≡ None
  pub image : loaded.image ≡ image_of format file size
  pub whole : length loaded.image.bytes ≡ loaded.size.mem

-- the same for A32
abbrev pub IsLoaded : Format → Numbers → List ℕ → Loaded → Type 0
IsLoaded = IsLoadedAs A32
