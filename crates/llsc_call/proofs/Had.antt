-- How the files of a request are had, and what it is answered with that are not.
use Rattle.std.proofs.Common.{◌≡◌, ℕ, inl, inr, List, [], ◌∷◌, Option, Some, None, Result, Ok, Err, Vec, refl, sym, subst, codes, ◌∙◌}
use Rattle.std.specs.Global.{Global}
use Rattle.std.specs.Result.{IsErrAnd}
use Rattle.llsc_base.specs.Images.{Program}
use Rattle.llsc_base.specs.Sizes.{Numbers}
use Rattle.a32_asm.specs.Assembled.{most_text, unit_of}
use Rattle.llsc_host.specs.declared.host.Host.{Ghosts}
use Rattle.llsc_host.specs.declared.host.ReadFault.{ReadFault}
use Rattle.llsc_host.specs.declared.host.ReadFault.TheVariants as fault
use Rattle.llsc_host.specs.Host.{AreBytes, Rose}
use Rattle.llsc_host.specs.Said.{refusal_text}
use Rattle.llsc_host.specs.Writes.{KeepsReads, KeepsWrites}
use Rattle.llsc_host.proofs.Kept.{reads_kept, writes_kept}
use Rattle.llsc_words.specs.declared.formats.Format.{Format}
use Rattle.llsc_words.specs.declared.sets.SetName.{SetName}
use Rattle.llsc_words.specs.declared.sets.SetName.TheVariants.{A32}
use Rattle.llsc_words.specs.Request.{Request, Solo, Run, Pool, Record, Assemble, Disassemble, Trace, Check, Explain, Load, files_of}
use Rattle.llsc_files.specs.Programs.{image_of, program_refusal, program_refusal_as}
use Rattle.llsc_files.specs.Reads.{Had, IsHad, MayBeLong, Reads}
use Rattle.llsc_files.specs.Refusals.{Answer, Is, machine_of, most_program, size_refusal, solo_size, too_long, unless}
use Rattle.llsc_texts.specs.Assembly.{text_answer, text_refusal}
use Rattle.llsc_texts.specs.Disassembly.{disassembly}
use Rattle.run_record.specs.Reading.{record_of}
use Rattle.run_record.specs.declared.records.RunRecord.{RunRecord}
use Rattle.llsc_call.specs.Answer.{Answers, AreFiles, IsDue, IsReported}
use Rattle.llsc_call.specs.Check.{files_refusal, most_record, AnswersFiles, AnswersRead, IsJudged}
use Rattle.llsc_call.specs.Explain.{IsExplained}
use Rattle.llsc_call.specs.inner.Files.{IsRefusedLong, ReadFiles, ReadWanted, barred, first_file, second_file}
use Rattle.llsc_call.specs.Record.{RecordsRun}
use Rattle.llsc_call.specs.Run.{ReportsRun, UnlessRun}
use Rattle.llsc_call.specs.Trace.{Traces}
use Rattle.llsc_call.specs.declared.files.Files.{Files}
use Rattle.llsc_call.proofs.Outcomes.{unless_refused}

-- bytes that a file may hold
held_bytes : Option (List ℕ) → List ℕ
held_bytes None = []
held_bytes (Some file) = file

are_held : (held : Option (List ℕ)) → AreBytes held (held_bytes held)
unfolding held_bytes
are_held None = tt
are_held (Some file) = refl

-- Requests that are refused before the contents of their files count.

-- what stands against a request by its first file
abbrev stands : Request → List ℕ → Option (List ℕ)
stands (Solo name format mem budget) file = program_refusal format (solo_size mem) file
stands (Run name format set first spare size budget) file = program_refusal_as set format size file
stands (Pool name format size workers slice budget) file = program_refusal format size file
stands (Record name format size budget) file = program_refusal format size file
stands (Assemble name format) file = text_refusal file
stands (Disassemble name format mem) file = program_refusal format (solo_size mem) file
stands (Trace name format threads mem granule seed budget) file = program_refusal format (machine_of mem threads granule) file
stands (Check name recorded format mem) file = too_long most_program file
stands (Explain name recorded format mem) file = too_long most_program file
stands (Load seed threads rounds budget) file = None

-- a request's first file may hold this, if it has one
abbrev MayBe : (List ℕ → Option (List ℕ)) → Option (List ℕ × ℕ) → List ℕ → Type 0
MayBe held None bytes = ⊥
MayBe held (Some file) bytes = AreBytes (held file.0) bytes

-- answers of one text and one status, and those of threads
is_refused : (against : Option (List ℕ)) (answer : Answer) (name : List ℕ) → against ≡ Some name → Is (unless against answer) 4 (refusal_text name)
is_refused against answer name is = subst (λ r. Is (unless r answer) 4 (refusal_text name)) (sym is) (refl, refl)

run_is_refused : (against : Option (List ℕ)) (answers : ℕ → List ℕ → Type 0) (name : List ℕ) → against ≡ Some name → UnlessRun against None answers 4 (refusal_text name)
run_is_refused against answers name is = subst (λ r. UnlessRun r None answers 4 (refusal_text name)) (sym is) (refl, (refl, refl))

-- and those of a record and its program
first_is_refused : (answers : Program → Numbers → RunRecord → ℕ → List ℕ → Type 0) (format : Format) (mem : ℕ) (file recorded name : List ℕ) → too_long most_program file ≡ Some name
    → AnswersFiles answers format mem file recorded 4 (refusal_text name)
first_is_refused answers format mem file recorded name is =
    unless_refused (AnswersRead answers format mem file (record_of recorded)) (files_refusal file recorded) name (rw is refl)

second_is_refused : (answers : Program → Numbers → RunRecord → ℕ → List ℕ → Type 0) (format : Format) (mem : ℕ) (file recorded name : List ℕ) → too_long most_program file ≡ None
    → too_long most_record recorded ≡ Some name → AnswersFiles answers format mem file recorded 4 (refusal_text name)
second_is_refused answers format mem file recorded name short is =
    unless_refused (AnswersRead answers format mem file (record_of recorded)) (files_refusal file recorded) name (rw (short, is) refl)

-- it is refused by what stands against it
refused_first : (held : List ℕ → Option (List ℕ)) (asked : Request) (file against : List ℕ) → MayBe held (first_file asked) file → stands asked file ≡ Some against
    → (files : List (List ℕ)) × (AreFiles held (files_of asked) files × Answers asked files None 4 (refusal_text against))
refused_first held (Solo name format mem budget) file against may is =
    (file ∷ [], ((may, tt), (refl, unless_refused (IsReported (image_of format file (solo_size mem)) (solo_size mem) budget) (program_refusal format (solo_size mem) file) against is)))
refused_first held (Run name format set first spare size budget) file against may is =
    (file ∷ [], ((may, tt), run_is_refused (program_refusal_as set format size file) (ReportsRun set None (image_of format file size) size first spare budget) against is))
refused_first held (Pool name format size workers slice budget) file against may is =
    (file ∷ [], ((may, tt), run_is_refused (program_refusal format size file) (ReportsRun A32 None (image_of format file size) size size.threads 0 budget) against is))
refused_first held (Record name format size budget) file against may is =
    (file ∷ [], ((may, tt), run_is_refused (program_refusal format size file) (RecordsRun None (image_of format file size) size budget) against is))
refused_first held (Assemble name format) file against may is =
    (file ∷ [], ((may, tt), (refl, is_refused (text_refusal file) (text_answer format (unit_of file)) against is)))
refused_first held (Disassemble name format mem) file against may is =
    (file ∷ [], ((may, tt), (refl, is_refused (program_refusal format (solo_size mem) file) (record { status = 0; text = disassembly (image_of format file (solo_size mem)) }) against is)))
refused_first held (Trace name format threads mem granule seed budget) file against may is =
    let size = machine_of mem threads granule in
    (file ∷ [], ((may, tt), (refl, unless_refused (Traces (image_of format file size) size seed budget) (program_refusal format size file) against is)))
refused_first held (Check name recorded format mem) file against may is =
    let other = held_bytes (held recorded) in
    (file ∷ other ∷ [], ((may, (are_held (held recorded), tt)), (refl, first_is_refused IsJudged format mem file other against is)))
refused_first held (Explain name recorded format mem) file against may is =
    let other = held_bytes (held recorded) in
    (file ∷ other ∷ [], ((may, (are_held (held recorded), tt)), (refl, first_is_refused IsExplained format mem file other against is)))
refused_first held (Load seed threads rounds budget) file against may is = absurd may

-- by its machine, whatever its file
unsized : (set : SetName) (format : Format) (size : Numbers) (file name : List ℕ) → size_refusal size ≡ Some name → program_refusal_as set format size file ≡ Some name
unsized set format size file name is = rw is refl

pub refused_barred : (held : List ℕ → Option (List ℕ)) (asked : Request) (against : List ℕ) → barred asked ≡ Some against
    → (files : List (List ℕ)) × (AreFiles held (files_of asked) files × Answers asked files None 4 (refusal_text against))
refused_barred held (Solo name format mem budget) against is =
    let file = held_bytes (held name) in
    refused_first held (Solo name format mem budget) file against (are_held (held name)) (unsized A32 format (solo_size mem) file against is)
refused_barred held (Run name format set first spare size budget) against is =
    let file = held_bytes (held name) in
    refused_first held (Run name format set first spare size budget) file against (are_held (held name)) (unsized set format size file against is)
refused_barred held (Pool name format size workers slice budget) against is =
    let file = held_bytes (held name) in
    refused_first held (Pool name format size workers slice budget) file against (are_held (held name)) (unsized A32 format size file against is)
refused_barred held (Record name format size budget) against is =
    let file = held_bytes (held name) in
    refused_first held (Record name format size budget) file against (are_held (held name)) (unsized A32 format size file against is)
refused_barred held (Disassemble name format mem) against is =
    let file = held_bytes (held name) in
    refused_first held (Disassemble name format mem) file against (are_held (held name)) (unsized A32 format (solo_size mem) file against is)
refused_barred held (Trace name format threads mem granule seed budget) against is =
    let file = held_bytes (held name) in
    refused_first held (Trace name format threads mem granule seed budget) file against (are_held (held name)) (unsized A32 format (machine_of mem threads granule) file against is)
refused_barred held (Assemble name format) against is = absurd cc
refused_barred held (Check name recorded format mem) against is = absurd cc
refused_barred held (Explain name recorded format mem) against is = absurd cc
refused_barred held (Load seed threads rounds budget) against is = absurd cc

-- by the length of its file
long : (set : SetName) (format : Format) (size : Numbers) (file : List ℕ) → size_refusal size ≡ None → too_long most_program file ≡ Some (codes "FileTooLong")
    → program_refusal_as set format size file ≡ Some (codes "FileTooLong")
long set format size file none is = rw (none, is) refl

text_long : (file : List ℕ) → too_long most_text file ≡ Some (codes "FileTooLong") → text_refusal file ≡ Some (codes "FileTooLong")
text_long file is = rw is refl

-- A read of one file, and of the next.

-- one that gave no file
one_unread : {S : Type 0} (host : Ghosts S) (old new : S) (asked : Request) (name : List ℕ) (most : ℕ) (f : ReadFault) → IsDue (host.file old) asked name
    → (MayBeLong (host.file old name) most → IsRefusedLong (host.file old) asked) → Reads host old new name most (Err f) → ReadFiles host old new asked (Err f)
one_unread host old new asked name most fault.Failed due too_long read = record { had = (read.had.0, subst (IsDue (host.file old) asked) (sym read.had.1) due); writes = read.writes }
one_unread host old new asked name most fault.FileTooLong due too_long read = record { had = (read.had.0, too_long read.had.1); writes = read.writes }
one_unread host old new asked name most fault.Memory due too_long read = record { had = read.had; writes = read.writes }

-- after one that was had
had_on : {S : Type 0} (host : Ghosts S) (old mid new : S) (name : List ℕ) (most : ℕ) (result : Result (Vec ℕ Global) ReadFault) → KeepsReads host old mid
    → Had host mid new name most result → Had host old new name most result
had_on host old mid new name most (Ok file) kept had =
    (reads_kept host old mid new kept had.0, subst (λ held. IsHad (held name) most file.items) kept.files had.1)
had_on host old mid new name most (Err fault.Failed) kept had = (subst (λ n. Rose n (host.read_faults new)) kept.read_faults had.0, had.1)
had_on host old mid new name most (Err fault.FileTooLong) kept had =
    (reads_kept host old mid new kept had.0, subst (λ held. MayBeLong (held name) most) kept.files had.1)
had_on host old mid new name most (Err fault.Memory) kept had = reads_kept host old mid new kept had

reads_on : {S : Type 0} (host : Ghosts S) (old mid new : S) (name : List ℕ) (most : ℕ) (result : Result (Vec ℕ Global) ReadFault) → KeepsReads host old mid → KeepsWrites host old mid
    → Reads host mid new name most result → Reads host old new name most result
reads_on host old mid new name most result kept unwritten read = record {
  had = had_on host old mid new name most result kept read.had;
  files = read.files ∙ kept.files;
  writes = writes_kept host old mid new unwritten read.writes;
}

-- All files of a request.

pub first_unread : {S : Type 0} (host : Ghosts S) (old new : S) (asked : Request) (f : ReadFault) → barred asked ≡ None
    → ReadWanted host old new (first_file asked) (Err f) → ReadFiles host old new asked (Err f)
first_unread host old new (Solo name format mem budget) f none read =
    let asked : Request = Solo name format mem budget in
    one_unread host old new asked name most_program f (refl, none)
    (λ may. refused_first (host.file old) asked may.0 (codes "FileTooLong") may.1.0 (long A32 format (solo_size mem) may.0 none may.1.1)) read
first_unread host old new (Run name format set first spare size budget) f none read =
    let asked : Request = Run name format set first spare size budget in
    one_unread host old new asked name most_program f (refl, none)
    (λ may. refused_first (host.file old) asked may.0 (codes "FileTooLong") may.1.0 (long set format size may.0 none may.1.1)) read
first_unread host old new (Pool name format size workers slice budget) f none read =
    let asked : Request = Pool name format size workers slice budget in
    one_unread host old new asked name most_program f (refl, none)
    (λ may. refused_first (host.file old) asked may.0 (codes "FileTooLong") may.1.0 (long A32 format size may.0 none may.1.1)) read
first_unread host old new (Record name format size budget) f none read =
    let asked : Request = Record name format size budget in
    one_unread host old new asked name most_program f (refl, none)
    (λ may. refused_first (host.file old) asked may.0 (codes "FileTooLong") may.1.0 (long A32 format size may.0 none may.1.1)) read
first_unread host old new (Assemble name format) f none read =
    let asked : Request = Assemble name format in
    one_unread host old new asked name most_text f refl
    (λ may. refused_first (host.file old) asked may.0 (codes "FileTooLong") may.1.0 (text_long may.0 may.1.1)) read
first_unread host old new (Disassemble name format mem) f none read =
    let asked : Request = Disassemble name format mem in
    one_unread host old new asked name most_program f (refl, none)
    (λ may. refused_first (host.file old) asked may.0 (codes "FileTooLong") may.1.0 (long A32 format (solo_size mem) may.0 none may.1.1)) read
first_unread host old new (Trace name format threads mem granule seed budget) f none read =
    let asked : Request = Trace name format threads mem granule seed budget in
    one_unread host old new asked name most_program f (refl, none)
    (λ may. refused_first (host.file old) asked may.0 (codes "FileTooLong") may.1.0 (long A32 format (machine_of mem threads granule) may.0 none may.1.1)) read
first_unread host old new (Check name recorded format mem) f none read =
    let asked : Request = Check name recorded format mem in
    one_unread host old new asked name most_program f (inl refl)
    (λ may. refused_first (host.file old) asked may.0 (codes "FileTooLong") may.1.0 may.1.1) read
first_unread host old new (Explain name recorded format mem) f none read =
    let asked : Request = Explain name recorded format mem in
    one_unread host old new asked name most_program f (inl refl)
    (λ may. refused_first (host.file old) asked may.0 (codes "FileTooLong") may.1.0 may.1.1) read
first_unread host old new (Load seed threads rounds budget) f none read = absurd read

-- the record, behind a program that is not too long
check_long : (held : List ℕ → Option (List ℕ)) (name recorded : List ℕ) (format : Format) (mem : ℕ) (file : List ℕ) → AreBytes (held name) file → too_long most_program file ≡ None
    → MayBeLong (held recorded) most_record → IsRefusedLong held (Check name recorded format mem)
check_long held name recorded format mem file may short long =
    (file ∷ long.0 ∷ [], ((may, (long.1.0, tt)), (refl, second_is_refused IsJudged format mem file long.0 (codes "FileTooLong") short long.1.1)))

explain_long : (held : List ℕ → Option (List ℕ)) (name recorded : List ℕ) (format : Format) (mem : ℕ) (file : List ℕ) → AreBytes (held name) file → too_long most_program file ≡ None
    → MayBeLong (held recorded) most_record → IsRefusedLong held (Explain name recorded format mem)
explain_long held name recorded format mem file may short long =
    (file ∷ long.0 ∷ [], ((may, (long.1.0, tt)), (refl, second_is_refused IsExplained format mem file long.0 (codes "FileTooLong") short long.1.1)))

pub second_unread : {S : Type 0} (host : Ghosts S) (old mid new : S) (asked : Request) (file : Vec ℕ Global) (f : ReadFault)
    → ReadWanted host old mid (first_file asked) (Ok file) → ReadWanted host mid new (second_file asked) (Err f) → ReadFiles host old new asked (Err f)
second_unread host old mid new (Solo name format mem budget) file f first second = absurd second
second_unread host old mid new (Run name format set heads spare size budget) file f first second = absurd second
second_unread host old mid new (Pool name format size workers slice budget) file f first second = absurd second
second_unread host old mid new (Record name format size budget) file f first second = absurd second
second_unread host old mid new (Assemble name format) file f first second = absurd second
second_unread host old mid new (Disassemble name format mem) file f first second = absurd second
second_unread host old mid new (Trace name format threads mem granule seed budget) file f first second = absurd second
second_unread host old mid new (Check name recorded format mem) file f first second =
    one_unread host old new (Check name recorded format mem) recorded most_record f (inr (refl, (file.items, first.had.1)))
    (check_long (host.file old) name recorded format mem file.items first.had.1.0 first.had.1.1)
    (reads_on host old mid new recorded most_record (Err f) first.had.0 first.writes second)
second_unread host old mid new (Explain name recorded format mem) file f first second =
    one_unread host old new (Explain name recorded format mem) recorded most_record f (inr (refl, (file.items, first.had.1)))
    (explain_long (host.file old) name recorded format mem file.items first.had.1.0 first.had.1.1)
    (reads_on host old mid new recorded most_record (Err f) first.had.0 first.writes second)
second_unread host old mid new (Load seed threads rounds budget) file f first second = absurd second

pub all_had : {S : Type 0} (host : Ghosts S) (old mid new : S) (asked : Request) (files : Files)
    → ReadWanted host old mid (first_file asked) (Ok files.first) → ReadWanted host mid new (second_file asked) (Ok files.second) → ReadFiles host old new asked (Ok files)
all_had host old mid new (Solo name format mem budget) files first second =
    record { had = (reads_kept host old mid new first.had.0 second.0, ((first.had.1.1, tt), (first.had.1.0, tt))); writes = writes_kept host old mid new first.writes second.1 }
all_had host old mid new (Run name format set heads spare size budget) files first second =
    record { had = (reads_kept host old mid new first.had.0 second.0, ((first.had.1.1, tt), (first.had.1.0, tt))); writes = writes_kept host old mid new first.writes second.1 }
all_had host old mid new (Pool name format size workers slice budget) files first second =
    record { had = (reads_kept host old mid new first.had.0 second.0, ((first.had.1.1, tt), (first.had.1.0, tt))); writes = writes_kept host old mid new first.writes second.1 }
all_had host old mid new (Record name format size budget) files first second =
    record { had = (reads_kept host old mid new first.had.0 second.0, ((first.had.1.1, tt), (first.had.1.0, tt))); writes = writes_kept host old mid new first.writes second.1 }
all_had host old mid new (Assemble name format) files first second =
    record { had = (reads_kept host old mid new first.had.0 second.0, ((first.had.1.1, tt), (first.had.1.0, tt))); writes = writes_kept host old mid new first.writes second.1 }
all_had host old mid new (Disassemble name format mem) files first second =
    record { had = (reads_kept host old mid new first.had.0 second.0, ((first.had.1.1, tt), (first.had.1.0, tt))); writes = writes_kept host old mid new first.writes second.1 }
all_had host old mid new (Trace name format threads mem granule seed budget) files first second =
    record { had = (reads_kept host old mid new first.had.0 second.0, ((first.had.1.1, tt), (first.had.1.0, tt))); writes = writes_kept host old mid new first.writes second.1 }
all_had host old mid new (Check name recorded format mem) files first second =
    let other = reads_on host old mid new recorded most_record (Ok files.second) first.had.0 first.writes second in
    record { had = (other.had.0, ((first.had.1.1, other.had.1.1), (first.had.1.0, (other.had.1.0, tt)))); writes = other.writes }
all_had host old mid new (Explain name recorded format mem) files first second =
    let other = reads_on host old mid new recorded most_record (Ok files.second) first.had.0 first.writes second in
    record { had = (other.had.0, ((first.had.1.1, other.had.1.1), (first.had.1.0, (other.had.1.0, tt)))); writes = other.writes }
all_had host old mid new (Load seed threads rounds budget) files first second =
    record { had = (reads_kept host old mid new first.0 second.0, ((tt, tt), tt)); writes = writes_kept host old mid new first.1 second.1 }

-- what comes of a read that is passed on
pub unread_passed : {S : Type 0} (host : Ghosts S) (old new : S) (asked : Request) (result : Result Files ReadFault) (f : ReadFault) → IsErrAnd result (λ e. e ≡ f)
    → ReadFiles host old new asked (Err f) → ReadFiles host old new asked result
unread_passed host old new asked (Ok files) f is read = absurd is
unread_passed host old new asked (Err e) f is read = subst (λ x. ReadFiles host old new asked (Err x)) (sym is) read
