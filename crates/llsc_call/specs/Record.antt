-- What `record` answers for the bytes of a file, and with which history.
use Rattle.std.specs.Prelude.{◌≡◌, ℕ, ◌⊎◌, ◌<◌, ◌≤◌, List, Option, Some, None, codes, length}
use Rattle.llsc_base.specs.Images.{Program}
use Rattle.llsc_base.specs.Sizes.{Numbers}
use Rattle.history.specs.Parts.{accesses_of}
use Rattle.history.specs.declared.entry.Access.{Access}
use Rattle.history.specs.declared.entry.Entry.{Entry}
use Rattle.guest_thread.specs.Outcome.{IsOutcome}
use Rattle.guest_thread.specs.declared.ends.GuestEnd.{GuestEnd}
use Rattle.run_record.specs.Limits.{most_accesses}
use Rattle.run_record.specs.Text.{record_text}
use Rattle.run_record.specs.declared.records.RunRecord.{RunRecord}
use Rattle.run_merge.specs.Merge.{IsMerge}
use Rattle.llsc_words.specs.declared.formats.Format.{Format}
use Rattle.llsc_report.specs.Status.{status_of_all}
use Rattle.llsc_files.specs.Programs.{image_of, program_refusal}
use Rattle.llsc_host.specs.Said.{refusal_text}
use Rattle.llsc_call.specs.Run.{UnlessRun}
use Rattle.llsc_call.specs.Versions.{KeepsVersions}
use Rattle.a32_step.specs.Machine.{a32}

-- accesses as the record of a machine's run, of so many steps for each thread at most
abbrev pub record_by : Numbers → ℕ → List Access → RunRecord
record_by size budget merged = record { threads = size.threads; budget = budget; granule = size.granule; accesses = merged }

-- the text of a record of a merge of a history, whichever merge that is, and the status by the stops of the threads
abbrev pub PrintsMerge : List Entry → Numbers → ℕ → List GuestEnd → ℕ → List ℕ → Type 0
PrintsMerge history size budget ends status text =
    (length (accesses_of history) ≤ most_accesses)
    × ((merged : List Access) × (IsMerge size history merged × ((status ≡ status_of_all ends) × (text ≡ record_text (record_by size budget merged)))))

-- status 4 and a refusal: the history has more accesses than a record may have
abbrev pub IsTooLongFor : List Entry → ℕ → List ℕ → Type 0
IsTooLongFor history status text = (most_accesses < length (accesses_of history)) × ((status ≡ 4) × (text ≡ refusal_text (codes "TooLong")))

-- one of these, by a history that is legal, complete, of the program's threads and of memory kept by versions
abbrev pub IsRecordOf : List Entry → Program → Numbers → ℕ → ℕ → List ℕ → Type 0
IsRecordOf history program size budget status text =
    (ends : List GuestEnd) × (IsOutcome a32 program size budget history ends × (KeepsVersions size history
    × (PrintsMerge history size budget ends status text ⊎ IsTooLongFor history status text)))

-- threads that ran have a history, and are recorded by it
abbrev pub RecordsRun : Option (List Entry) → Program → Numbers → ℕ → ℕ → List ℕ → Type 0
RecordsRun None program size budget status text = ⊥
RecordsRun (Some history) program size budget status text = IsRecordOf history program size budget status text

-- the history, the status and the text for a format, a machine of these numbers, a budget and the bytes of the file
abbrev pub AnswersRecord : Format → Numbers → ℕ → List ℕ → Option (List Entry) → ℕ → List ℕ → Type 0
AnswersRecord format size budget file story =
    UnlessRun (program_refusal format size file) story (RecordsRun story (image_of format file size) size budget)
