-- What `run` answers for the bytes of a file, and with which history; and so does `pool`, whose threads start no others.
use Rattle.std.specs.Prelude.{◌≡◌, ℕ, List, Option, Some, None}
use Rattle.std.specs.Option.{option_map}
use Rattle.llsc_base.specs.Images.{Program}
use Rattle.llsc_base.specs.Sizes.{Numbers}
use Rattle.history.specs.declared.entry.Entry.{Entry}
use Rattle.version_memory.specs.declared.passes.VersionStory.{VersionStory}
use Rattle.version_memory.specs.Memory.{story_history}
use Rattle.guest_thread.specs.BegunOutcome.{IsOutcomeFrom}
use Rattle.guest_thread.specs.Outcome.{IsOutcome}
use Rattle.guest_thread.specs.declared.ends.GuestEnd.{GuestEnd}
use Rattle.rv32_guest.specs.Machine.{rv32}
use Rattle.llsc_words.specs.declared.formats.Format.{Format}
use Rattle.llsc_words.specs.declared.sets.SetName.{SetName}
use Rattle.llsc_words.specs.declared.sets.SetName.TheVariants.{A32, Rv32}
use Rattle.llsc_files.specs.Programs.{image_of, program_refusal_as}
use Rattle.llsc_host.specs.Said.{refusal_text}
use Rattle.llsc_report.specs.Report.{report_of}
use Rattle.llsc_report.specs.Status.{status_of_all}
use Rattle.llsc_call.specs.Versions.{KeepsVersions}
use Rattle.a32_step.specs.Machine.{a32}

-- the history that a story has, where there is one
abbrev pub told : Option VersionStory → Option (List Entry)
told story = option_map story_history story

-- These are the ends of all threads of instructions of that set that have begun in a history, which is legal, complete and their own:
-- so many begin by themselves, and each of these may start so many more. Threads of RISC-V instructions start no others, so that all
-- begin by themselves.
abbrev pub IsOutcomeBy : SetName → Program → Numbers → (first spare budget : ℕ) → List Entry → List GuestEnd → Type 0
IsOutcomeBy A32 program size first spare budget history ends = IsOutcomeFrom a32 program size first spare budget history ends
IsOutcomeBy Rv32 program size first spare budget history ends = IsOutcome rv32 program size budget history ends

-- the report of those ends, where memory was kept by versions, and the status by their stops
abbrev pub IsReportOf : SetName → List Entry → Program → Numbers → (first spare budget : ℕ) → ℕ → List ℕ → Type 0
IsReportOf set history program size first spare budget status text =
    (ends : List GuestEnd) × (IsOutcomeBy set program size first spare budget history ends × (KeepsVersions size history
    × ((status ≡ status_of_all ends) × (text ≡ report_of budget ends))))

-- threads that ran have a history, and are reported by it
abbrev pub ReportsRun : SetName → Option (List Entry) → Program → Numbers → (first spare budget : ℕ) → ℕ → List ℕ → Type 0
ReportsRun set None program size first spare budget status text = ⊥
ReportsRun set (Some history) program size first spare budget status text = IsReportOf set history program size first spare budget status text

-- status 4 and the refusal by what stands against a run, where no thread ran, or one of the answers where nothing does
abbrev pub UnlessRun : Option (List ℕ) → Option (List Entry) → (ℕ → List ℕ → Type 0) → ℕ → List ℕ → Type 0
UnlessRun (Some name) story answers status text = (story ≡ None) × ((status ≡ 4) × (text ≡ refusal_text name))
UnlessRun None story answers status text = answers status text

-- the history, the status and the text for an instruction set, a format, so many threads that begin by themselves and that each of
-- them may start, a machine of these numbers, a budget and the bytes of the file
abbrev pub AnswersRun : SetName → Format → (first spare : ℕ) → Numbers → ℕ → List ℕ → Option (List Entry) → ℕ → List ℕ → Type 0
AnswersRun set format first spare size budget file story =
    UnlessRun (program_refusal_as set format size file) story (ReportsRun set story (image_of format file size) size first spare budget)
