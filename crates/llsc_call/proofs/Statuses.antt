-- The statuses of what is answered are those of answers.
use Rattle.std.proofs.Common.{inl, inr, Bool, true, false, ◌==◌, if◌then◌else◌, List, refl}
use Rattle.llsc_base.specs.declared.outside.Stop.{Stop}
use Rattle.llsc_base.specs.declared.outside.Stop.TheVariants as stop
use Rattle.guest_thread.specs.declared.ends.GuestEnd.{GuestEnd}
use Rattle.run_checker.specs.declared.verdicts.Verdict.{Verdict}
use Rattle.run_checker.specs.declared.verdicts.Verdict.TheVariants as verdict
use Rattle.llsc_files.specs.Reads.{IsDone}
use Rattle.llsc_report.specs.Status.{have_left, status_of, status_of_all}
use Rattle.llsc_call.specs.Check.{verdict_status}

either_done : (b : Bool) → IsDone (if b then 0 else 1)
either_done true = inl refl
either_done false = inr (inl refl)

pub stop_done : (why : Stop) → IsDone (status_of why)
stop_done (stop.Exit code) = either_done (code == 0)
stop_done (stop.Undefined addr) = inr (inl refl)
stop_done (stop.Unpredictable addr) = inr (inl refl)
stop_done (stop.Alignment addr) = inr (inl refl)
stop_done (stop.Outside addr) = inr (inl refl)
stop_done (stop.ReadOnly addr) = inr (inl refl)
stop_done (stop.Thumb addr) = inr (inl refl)
stop_done (stop.TagLimit addr) = inr (inl refl)
stop_done stop.Budget = inr (inl refl)

pub all_done : (ends : List GuestEnd) → IsDone (status_of_all ends)
all_done ends = either_done (have_left ends)

pub verdict_done : (v : Verdict) → IsDone (verdict_status v)
verdict_done verdict.Good = inl refl
verdict_done (verdict.Bad index reason) = inr (inr (inr refl))
