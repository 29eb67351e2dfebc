-- A trace of one thread is a history of a thread alone.
use Rattle.std.proofs.Common.{◌≡◌, ℕ, List, [], sym, subst}
use Rattle.std.specs.List.{All}
use Rattle.llsc_base.specs.Images.{Program}
use Rattle.llsc_base.specs.Sizes.{Numbers}
use Rattle.history.specs.ArmLegal.{IsArmLegal}
use Rattle.history.specs.Monitor.{at_rest_by}
use Rattle.history.specs.declared.entry.Access.{Access}
use Rattle.history.specs.Accesses.{entry_of, history_of}
use Rattle.guest_thread.proofs.Pushed.{history_push}
use Rattle.run_record.specs.Limits.{IsAccess}
use Rattle.run_record.specs.declared.records.RunRecord.{RunRecord}
use Rattle.guest_machine.specs.Alone.{AllFailUnmarked, IsHistoryAlone}
use Rattle.guest_machine.specs.Traces.{IsTraceRecord}
use Rattle.guest_machine.specs.Turns.{Takes, begins, makes, stops}
use Rattle.guest_thread.specs.Accesses.{access_by, monitor_of}
use Rattle.guest_machine.proofs.UnderWay.{all_fail_push, unmarked}
use Rattle.llsc_call.proofs.GoodTraces.{trace_good}
use Rattle.run_checker.proofs.LegalRecords.{right_legal, good_right}
use Rattle.a32_step.specs.Machine.{a32}
use Rattle.a32_step.proofs.Tested.{next_passes, next_own}

-- each store-exclusive of a trace that failed did so without a mark
all_unmarked : (program : Program) (size : Numbers) (seed budget x : ℕ) (live : List ℕ) (accesses : List Access)
    → Takes a32 program size seed budget x live accesses → AllFailUnmarked (at_rest_by size.granule program.bytes size.threads) (history_of accesses)
all_unmarked program size seed budget _ _ _ begins = tt
all_unmarked program size seed budget _ _ _ (makes x live accesses t ask before turn asks) =
    let access : Access = access_by (monitor_of program size accesses) t ask in
    subst (AllFailUnmarked (at_rest_by size.granule program.bytes size.threads)) (sym (history_push accesses access))
    (all_fail_push (at_rest_by size.granule program.bytes size.threads) (history_of accesses) (entry_of access)
    (all_unmarked program size seed budget x live accesses before) (unmarked (monitor_of program size accesses) t ask))
all_unmarked program size seed budget _ _ _ (stops x live accesses t stop steps output before turn ends) =
    all_unmarked program size seed budget x live accesses before

pub trace_alone : (program : Program) (size : Numbers) (seed : ℕ) (run : RunRecord) → size.threads ≡ 1
    → IsTraceRecord a32 program size seed run.budget run → IsHistoryAlone size.granule program.bytes (history_of run.accesses)
trace_alone program size seed run one is =
    let accesses : List Access = run.accesses in
    let sound : All (IsAccess size.threads) accesses = subst (λ n. All (IsAccess n) accesses) is.threads is.sound.accesses in
    let right = good_right a32 next_passes next_own program size run.budget accesses (trace_good program size seed run.budget accesses is.trace) in
    record {
      legal = subst (λ n. IsArmLegal (at_rest_by size.granule program.bytes n) (history_of accesses)) one (right_legal a32 next_passes next_own program size run.budget accesses right sound);
      decided = subst (λ n. AllFailUnmarked (at_rest_by size.granule program.bytes n) (history_of accesses)) one
          (all_unmarked program size seed run.budget is.trace.0 [] accesses is.trace.1);
    }
