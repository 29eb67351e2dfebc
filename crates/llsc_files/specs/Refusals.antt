-- What stands against a file, and how it is refused.
use Rattle.std.specs.Prelude.{◌≡◌, ℕ, ◌^◌, nat_lt, if◌then◌else◌, List, length, string_bytes, Option, Some, None, codes}
use Rattle.std.specs.Option.{option_map}
use Rattle.llsc_host.specs.Said.{refusal_text}
use Rattle.llsc_files.specs.declared.refusals.Refusal.{Refusal}
use Rattle.llsc_files.specs.declared.refusals.Refusal.TheVariants.{Said, Memory}
use Rattle.llsc_base.specs.Sizes.{Numbers, numbers, size_fault, size_fault_name}

-- A status and a text.
pub record Answer : Type 0 where
  pub status : ℕ
  pub text : List ℕ

-- the status and the text are those of an answer
abbrev pub Is : Answer → ℕ → List ℕ → Type 0
Is answer status text = (status ≡ answer.status) × (text ≡ answer.text)

-- a file is refused by the name of what stands against it
abbrev pub refused : List ℕ → Answer
refused name = record { status = 4; text = refusal_text name }

-- the refusal by what stands against a file, or the answer where nothing does
abbrev pub unless : Option (List ℕ) → Answer → Answer
unless (Some name) answer = refused name
unless None answer = answer

-- the most bytes of a program file
abbrev pub most_program : ℕ
most_program = 33554432

-- the machine of so many threads with so much memory and rows of this granule: 4096 classes, and writes without a bound that
-- a run could reach
abbrev pub machine_of : (mem threads granule : ℕ) → Numbers
machine_of mem threads granule = record (numbers mem threads 4096 (2 ^ 62)) { granule = granule }

-- the machine of one thread, with rows of eight bytes
abbrev pub solo_size : ℕ → Numbers
solo_size mem = machine_of mem 1 0

-- what stands against a file of more bytes than so many: its length
abbrev pub too_long : ℕ → List ℕ → Option (List ℕ)
too_long most file = if nat_lt most (length file) then Some (codes "FileTooLong") else None

-- what stands against a machine of these numbers: that there is none
abbrev pub size_refusal : Numbers → Option (List ℕ)
size_refusal size = option_map size_fault_name (size_fault size)

-- status 4 and the refusal by what stands against a request, or one of the answers where nothing does
abbrev pub Unless : Option (List ℕ) → (ℕ → List ℕ → Type 0) → ℕ → List ℕ → Type 0
Unless (Some name) answers status text = (status ≡ 4) × (text ≡ refusal_text name)
Unless None answers status text = answers status text

-- a refusal by what stands against a request, or want of memory
abbrev pub IsRefusal : Option (List ℕ) → Refusal → Type 0
IsRefusal against (Said text) = (name : List ℕ) × ((against ≡ Some name) × (string_bytes text ≡ refusal_text name))
IsRefusal against Memory = Unit {0}
