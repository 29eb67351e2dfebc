-- What `trace` answers for the bytes of a file.
use Rattle.std.specs.Prelude.{◌≡◌, ℕ, ◌⊎◌, List, codes}
use Rattle.llsc_base.specs.Images.{Program}
use Rattle.llsc_base.specs.Sizes.{Numbers}
use Rattle.guest_thread.specs.declared.ends.GuestEnd.{GuestEnd}
use Rattle.guest_machine.specs.Traces.{IsTraceRecord}
use Rattle.history.specs.Accesses.{history_of}
use Rattle.guest_thread.specs.Ends.{AreEnds}
use Rattle.guest_machine.specs.Turns.{IsTooLong}
use Rattle.run_record.specs.Text.{record_text}
use Rattle.run_record.specs.declared.records.RunRecord.{RunRecord}
use Rattle.llsc_words.specs.declared.formats.Format.{Format}
use Rattle.llsc_report.specs.Status.{status_of_all}
use Rattle.llsc_files.specs.Programs.{image_of, program_refusal}
use Rattle.llsc_host.specs.Said.{refusal_text}
use Rattle.llsc_files.specs.Refusals.{machine_of, Unless}
use Rattle.a32_step.specs.Machine.{a32}

-- the record of a program's trace with its status, which is by the ends of the threads; or that the trace has too many accesses
abbrev pub IsRecorded : Program → Numbers → ℕ → ℕ → ℕ → List ℕ → Type 0
IsRecorded program size seed budget status text =
    (run : RunRecord) × (ends : List GuestEnd)
    × (IsTraceRecord a32 program size seed budget run × (AreEnds a32 program size budget (history_of run.accesses) ends × ((status ≡ status_of_all ends) × (text ≡ record_text run))))

abbrev pub Traces : Program → Numbers → ℕ → ℕ → ℕ → List ℕ → Type 0
Traces program size seed budget status text =
    IsRecorded program size seed budget status text
    ⊎ (IsTooLong a32 program size seed budget × ((status ≡ 4) × (text ≡ refusal_text (codes "TooLong"))))

-- the status and the text for a format, so many threads, so much memory, a granule, a seed, a budget and the bytes of the
-- file
abbrev pub AnswersTrace : Format → (threads mem granule seed budget : ℕ) → List ℕ → ℕ → List ℕ → Type 0
AnswersTrace format threads mem granule seed budget file status text =
    let size = machine_of mem threads granule in
    Unless (program_refusal format size file) (Traces (image_of format file size) size seed budget) status text
