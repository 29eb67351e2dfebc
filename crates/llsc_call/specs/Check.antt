-- What `check` answers for the bytes of a program's file and of a record's.
use Rattle.std.specs.Prelude.{◌≡◌, ℕ, List, ◌++◌, Option, Result, Ok, Err, codes}
use Rattle.std.specs.Fmt.{decimal}
use Rattle.std.specs.Option.{option_or}
use Rattle.llsc_base.specs.Images.{Program}
use Rattle.llsc_base.specs.Sizes.{Numbers}
use Rattle.run_record.specs.Names.{record_fault_name}
use Rattle.run_record.specs.Reading.{record_of}
use Rattle.run_record.specs.declared.faults.RecordFault.{RecordFault}
use Rattle.run_record.specs.declared.faults.RecordFault.TheVariants as fault
use Rattle.run_record.specs.declared.records.RunRecord.{RunRecord}
use Rattle.run_checker.specs.Verdict.{Judges, reason_name}
use Rattle.run_checker.specs.declared.verdicts.Verdict.{Verdict}
use Rattle.run_checker.specs.declared.verdicts.Verdict.TheVariants as verdict
use Rattle.llsc_words.specs.declared.formats.Format.{Format}
use Rattle.llsc_files.specs.Programs.{image_of, program_refusal}
use Rattle.llsc_host.specs.Said.{refusal_text}
use Rattle.llsc_files.specs.Refusals.{machine_of, most_program, too_long, Unless}
use Rattle.a32_step.specs.Machine.{a32}

-- the most bytes of a record's file
abbrev pub most_record : ℕ
most_record = 67108864

-- what stands against the files before they are looked into: that the program's is too long, or else that the record's is
abbrev pub files_refusal : (file recorded : List ℕ) → Option (List ℕ)
files_refusal file recorded = option_or (too_long most_program file) (too_long most_record recorded)

-- a record's fault by its name, and its line where it is a line's
abbrev pub record_fault_text : RecordFault → List ℕ
record_fault_text (fault.Line n) = codes "Line " ++ decimal n
record_fault_text (fault.Thread n) = codes "Thread " ++ decimal n
record_fault_text fault = record_fault_name fault

-- the text of a verdict, and its status
abbrev pub verdict_text : Verdict → List ℕ
verdict_text verdict.Good = codes "good\n"
verdict_text (verdict.Bad index reason) = codes "bad " ++ (decimal index ++ (codes " " ++ (reason_name reason ++ codes "\n")))

abbrev pub verdict_status : Verdict → ℕ
verdict_status verdict.Good = 0
verdict_status (verdict.Bad index reason) = 7

-- a verdict on a record of a program's run
abbrev pub IsJudged : Program → Numbers → RunRecord → ℕ → List ℕ → Type 0
IsJudged program size run status text =
    (verdict : Verdict) × (Judges a32 program size run.budget run.accesses verdict × ((status ≡ verdict_status verdict) × (text ≡ verdict_text verdict)))

-- ---- what is answered by a record of a program's run, as `IsJudged` says it for `check`

-- a record is answered on a machine of its threads and its granule, unless there is no such machine or the program has a
-- fault there
abbrev pub AnswersOn : (Program → Numbers → RunRecord → ℕ → List ℕ → Type 0) → Format → ℕ → List ℕ → RunRecord → ℕ → List ℕ → Type 0
AnswersOn answers format mem file run status text =
    let size = machine_of mem run.threads run.granule in
    Unless (program_refusal format size file) (answers (image_of format file size) size run) status text

-- a record's fault is refused before anything that the program has
abbrev pub AnswersRead : (Program → Numbers → RunRecord → ℕ → List ℕ → Type 0) → Format → ℕ → List ℕ → Result RunRecord RecordFault → ℕ → List ℕ → Type 0
AnswersRead answers format mem file (Err fault) status text = (status ≡ 4) × (text ≡ refusal_text (record_fault_text fault))
AnswersRead answers format mem file (Ok run) status text = AnswersOn answers format mem file run status text

-- the status and the text for a format, so much memory, and the bytes of both files
abbrev pub AnswersFiles : (Program → Numbers → RunRecord → ℕ → List ℕ → Type 0) → Format → ℕ → (file recorded : List ℕ) → ℕ → List ℕ → Type 0
AnswersFiles answers format mem file recorded status text =
    Unless (files_refusal file recorded) (AnswersRead answers format mem file (record_of recorded)) status text

-- those of `check`
abbrev pub AnswersCheck : Format → ℕ → (file recorded : List ℕ) → ℕ → List ℕ → Type 0
AnswersCheck format mem file recorded status text = AnswersFiles IsJudged format mem file recorded status text
