-- Only proofs and inner contracts need these words.
-- The files of a request: which are read, what stands against that, and their bytes.
use Rattle.std.specs.Prelude.{◌≡◌, ℕ, List, [], ◌∷◌, length, take, Option, Some, None, Result, Ok, Err, Vec, codes}
use Rattle.std.specs.Global.{Global}
use Rattle.std.specs.Option.{option_and_then}
use Rattle.llsc_base.specs.Sizes.{Numbers}
use Rattle.a32_asm.specs.Assembled.{most_text}
use Rattle.llsc_host.specs.declared.host.Host.{Ghosts}
use Rattle.llsc_host.specs.declared.host.ReadFault.{ReadFault}
use Rattle.llsc_host.specs.declared.host.ReadFault.TheVariants.{Failed, FileTooLong, Memory}
use Rattle.llsc_host.specs.Host.{Rose}
use Rattle.llsc_host.specs.Said.{refusal_text}
use Rattle.llsc_host.specs.Writes.{KeepsReads, KeepsWrites}
use Rattle.llsc_words.specs.Request.{Request, Solo, Run, Pool, Record, Assemble, Disassemble, Trace, Check, Explain, Load, files_of}
use Rattle.llsc_files.specs.Reads.{Reads}
use Rattle.llsc_files.specs.Refusals.{machine_of, most_program, size_refusal, solo_size, too_long}
use Rattle.llsc_call.specs.Answer.{Answers, AreFiles, IsDue}
use Rattle.llsc_call.specs.Check.{most_record}
use Rattle.llsc_call.specs.declared.files.Wanted.{Wanted}
use Rattle.llsc_call.specs.declared.files.Files.{Files}

-- a file that is to be read, by its name and the most bytes that it may have
abbrev pub wanted : Wanted → List ℕ × ℕ
wanted file = (file.name.now, file.most)

abbrev pub first_file : Request → Option (List ℕ × ℕ)
first_file (Solo file format mem budget) = Some (file, most_program)
first_file (Run file format set first spare size budget) = Some (file, most_program)
first_file (Pool file format size workers slice budget) = Some (file, most_program)
first_file (Record file format size budget) = Some (file, most_program)
first_file (Assemble file format) = Some (file, most_text)
first_file (Disassemble file format mem) = Some (file, most_program)
first_file (Trace file format threads mem granule seed budget) = Some (file, most_program)
first_file (Check file recorded format mem) = Some (file, most_program)
first_file (Explain file recorded format mem) = Some (file, most_program)
first_file (Load seed threads rounds budget) = None

abbrev pub second_file : Request → Option (List ℕ × ℕ)
second_file (Check file recorded format mem) = Some (recorded, most_record)
second_file (Explain file recorded format mem) = Some (recorded, most_record)
second_file _ = None

-- the machine that a request names
abbrev pub machine_wanted : Request → Option Numbers
machine_wanted (Solo file format mem budget) = Some (solo_size mem)
machine_wanted (Run file format set first spare size budget) = Some size
machine_wanted (Pool file format size workers slice budget) = Some size
machine_wanted (Record file format size budget) = Some size
machine_wanted (Disassemble file format mem) = Some (solo_size mem)
machine_wanted (Trace file format threads mem granule seed budget) = Some (machine_of mem threads granule)
machine_wanted _ = None

-- what stands against a request before its files are read: that there is no such machine
abbrev pub barred : Request → Option (List ℕ)
barred asked = option_and_then size_refusal (machine_wanted asked)

-- the bytes of a request's files, as many as it has
abbrev pub files_by : Request → Files → List (List ℕ)
files_by asked files = take (length (files_of asked)) (files.first.items ∷ files.second.items ∷ [])

-- none of a request's files is too long
abbrev pub IsShort : Option (List ℕ × ℕ) → List ℕ → Type 0
IsShort None bytes = Unit {0}
IsShort (Some file) bytes = too_long file.1 bytes ≡ None

abbrev pub AreShort : Request → Files → Type 0
AreShort asked files = IsShort (first_file asked) files.first.items × IsShort (second_file asked) files.second.items

-- a file was read, if one was wanted
abbrev pub ReadWanted : {S : Type 0} → Ghosts S → (old new : S) → Option (List ℕ × ℕ) → Result (Vec ℕ Global) ReadFault → Type 0
ReadWanted host old new (Some file) result = Reads host old new file.0 file.1 result
ReadWanted host old new None (Ok file) = KeepsReads host old new × KeepsWrites host old new
ReadWanted host old new None (Err fault) = ⊥

-- a request is refused for the length of a file
abbrev pub IsRefusedLong : (List ℕ → Option (List ℕ)) → Request → Type 0
IsRefusedLong held asked =
    (files : List (List ℕ)) × (AreFiles held (files_of asked) files × Answers asked files None 4 (refusal_text (codes "FileTooLong")))

-- what reading a request's files came to: all were had, or a read that was due failed, or one of them is too long, or memory is
-- wanting
abbrev pub HadFiles : {S : Type 0} → Ghosts S → (old new : S) → Request → Result Files ReadFault → Type 0
HadFiles host old new asked (Ok files) = KeepsReads host old new × (AreShort asked files × AreFiles (host.file old) (files_of asked) (files_by asked files))
HadFiles host old new asked (Err Failed) = Rose (host.read_faults old) (host.read_faults new) × IsDue (host.file old) asked (host.lost new)
HadFiles host old new asked (Err FileTooLong) = KeepsReads host old new × IsRefusedLong (host.file old) asked
HadFiles host old new asked (Err Memory) = KeepsReads host old new

-- a request's files were read, which writes nothing
pub record ReadFiles {S : Type 0} (host : Ghosts S) (old new : S) (asked : Request) (result : Result Files ReadFault) : Type 0 where
  pub had : HadFiles host old new asked result
  pub writes : KeepsWrites host old new
