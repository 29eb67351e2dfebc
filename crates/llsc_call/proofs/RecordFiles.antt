-- What is answered for a record's file and its program's.
use Rattle.std.proofs.Common.{◌≡◌, ℕ, List, Some, None, Result, Ok, Err, sym, subst, refl}
use Rattle.llsc_base.specs.Images.{Program}
use Rattle.llsc_base.specs.Sizes.{Numbers}
use Rattle.run_record.specs.Reading.{record_of}
use Rattle.run_record.specs.declared.faults.RecordFault.{RecordFault}
use Rattle.run_record.specs.declared.records.RunRecord.{RunRecord}
use Rattle.llsc_words.specs.declared.formats.Format.{Format}
use Rattle.llsc_host.specs.Said.{refusal_text}
use Rattle.llsc_files.specs.Programs.{image_of, program_refusal}
use Rattle.llsc_files.specs.Refusals.{machine_of, most_program, too_long, IsRefusal}
use Rattle.llsc_files.specs.declared.refusals.Refusal.{Refusal}
use Rattle.llsc_call.specs.Check.{files_refusal, most_record, AnswersFiles, AnswersRead}
use Rattle.llsc_call.specs.inner.Outcome.{Gives, refused_by}
use Rattle.llsc_call.specs.inner.RecordFiles.{AreHad, read_refusal}
use Rattle.llsc_call.specs.declared.commands.record_files.RecordedRun.{RecordedRun}
use Rattle.llsc_call.specs.declared.outcome.Outcome.{Outcome}
use Rattle.llsc_call.proofs.Outcomes.{file_loaded, gives_as, gives_refused, unless_none, unless_refused}

module _ (answers : Program → Numbers → RunRecord → ℕ → List ℕ → Type 0) (format : Format) (mem : ℕ) (file : List ℕ) where
  -- files that are not too long, by what the record is read as
  pub files_read : (recorded : List ℕ) (read : Result RunRecord RecordFault) → too_long most_program file ≡ None → too_long most_record recorded ≡ None
      → record_of recorded ≡ read → (status : ℕ) (text : List ℕ) → AnswersRead answers format mem file read status text → AnswersFiles answers format mem file recorded status text
  files_read recorded read short few is status text answered =
      unless_none (AnswersRead answers format mem file (record_of recorded)) (files_refusal file recorded) status text (rw (short, few) refl)
      (subst (λ r. AnswersRead answers format mem file r status text) (sym is) answered)

  -- they are refused
  read_refused : (read : Result RunRecord RecordFault) (name : List ℕ) → read_refusal format mem file read ≡ Some name → AnswersRead answers format mem file read 4 (refusal_text name)
  read_refused (Err fault) name is = (refl, cc)
  read_refused (Ok run) name is =
      let size = machine_of mem run.threads run.granule in
      unless_refused (answers (image_of format file size) size run) (program_refusal format size file) name is

  pub files_refused : (recorded : List ℕ) (o : Outcome) (r : Refusal) → too_long most_program file ≡ None → too_long most_record recorded ≡ None → o ≡ refused_by r
      → IsRefusal (read_refusal format mem file (record_of recorded)) r → Gives (AnswersFiles answers format mem file recorded) o
  files_refused recorded o r short few is refused =
      gives_refused (AnswersFiles answers format mem file recorded) (read_refusal format mem file (record_of recorded)) o r is refused
      (λ name against. files_read recorded (record_of recorded) short few refl 4 (refusal_text name) (read_refused (record_of recorded) name against))

  -- or they are had, and what the record comes to on its machine is the answer
  pub files_had : (recorded : List ℕ) (had : RecordedRun) (o : Outcome) → too_long most_program file ≡ None → too_long most_record recorded ≡ None
      → AreHad format mem file recorded had → Gives (answers had.loaded.image had.loaded.size had.run) o → Gives (AnswersFiles answers format mem file recorded) o
  files_had recorded had o short few is gives =
      let size = machine_of mem had.run.threads had.run.granule in
      gives_as o (files_read recorded (Ok had.run) short few is.read)
      (file_loaded (λ program size. answers program size had.run) format size size file had.loaded o refl is.loaded gives)
