-- What a run is answered with.
use Rattle.std.proofs.Common.{◌≡◌, ◌⊎◌, inl, inr, ℕ, List, Option, Some, None, refl}
use Rattle.llsc_base.specs.Images.{Program}
use Rattle.llsc_base.specs.Sizes.{Numbers}
use Rattle.history.specs.declared.entry.Entry.{Entry}
use Rattle.rv32_guest.specs.Machine.{rv32}
use Rattle.guest_thread.specs.declared.ends.GuestEnd.{GuestEnd}
use Rattle.llsc_words.specs.declared.formats.Format.{Format}
use Rattle.llsc_words.specs.declared.sets.SetName.{SetName}
use Rattle.llsc_words.specs.declared.sets.SetName.TheVariants.{A32, Rv32}
use Rattle.llsc_call.specs.Beside.{HaveRun, HaveRunFrom}
use Rattle.llsc_call.specs.Versions.{KeepsVersions}
use Rattle.llsc_files.specs.Programs.{image_of, program_refusal_as}
use Rattle.llsc_report.specs.Report.{report_of}
use Rattle.llsc_call.specs.Run.{AnswersRun, IsOutcomeBy, IsReportOf, ReportsRun, UnlessRun}
use Rattle.llsc_report.specs.Status.{status_of_all}

-- ---- the report

pub reported : (program : Program) (size : Numbers) (first spare budget : ℕ) (history : List Entry) (ends : List GuestEnd) (cells : List ℕ)
    → HaveRunFrom program size first spare budget history ends cells
    → IsReportOf A32 history program size first spare budget (status_of_all ends) (report_of budget ends)
reported program size first spare budget history ends cells ran = (ends, (ran.outcome, (ran.versions, (refl, refl))))

pub reported_rv : (program : Program) (size : Numbers) (first spare budget : ℕ) (history : List Entry) (ends : List GuestEnd) (cells : List ℕ)
    → HaveRun rv32 program size budget history ends cells
    → IsReportOf Rv32 history program size first spare budget (status_of_all ends) (report_of budget ends)
reported_rv program size first spare budget history ends cells ran = (ends, (ran.outcome, (ran.versions, (refl, refl))))

-- ---- the history of an answer

outcome_by : (set : SetName) (against : Option (List ℕ)) (story : Option (List Entry)) (program : Program) (size : Numbers) (first spare budget status : ℕ) (text : List ℕ)
    → UnlessRun against story (ReportsRun set story program size first spare budget) status text → (status ≡ 0) ⊎ (status ≡ 1)
    → (history : List Entry) × (ends : List GuestEnd) × ((story ≡ Some history) × (IsOutcomeBy set program size first spare budget history ends × (KeepsVersions size history × (text ≡ report_of budget ends))))
outcome_by set (Some name) story program size first spare budget status text stands (inl is) = cc (stands.1.0, is)
outcome_by set (Some name) story program size first spare budget status text stands (inr is) = cc (stands.1.0, is)
outcome_by set None None program size first spare budget status text reports ran = absurd reports
outcome_by set None (Some history) program size first spare budget status text reports ran = (history, reports.0, (refl, (reports.1.0, (reports.1.1.0, reports.1.1.1.1))))

pub outcome_of : (set : SetName) (format : Format) (first spare : ℕ) (size : Numbers) (budget : ℕ) (file : List ℕ) (story : Option (List Entry)) (status : ℕ) (text : List ℕ)
    → AnswersRun set format first spare size budget file story status text → (status ≡ 0) ⊎ (status ≡ 1)
    → (history : List Entry) × (ends : List GuestEnd) × ((story ≡ Some history) × (IsOutcomeBy set (image_of format file size) size first spare budget history ends
    × (KeepsVersions size history × (text ≡ report_of budget ends))))
outcome_of set format first spare size budget file story status text answers ran =
    outcome_by set (program_refusal_as set format size file) story (image_of format file size) size first spare budget status text answers ran
