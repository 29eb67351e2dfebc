-- What is given of a trace.
use Rattle.std.specs.Prelude.{◌≡◌, ℕ, List, codes}
use Rattle.llsc_base.specs.Images.{Program}
use Rattle.llsc_base.specs.Sizes.{Numbers}
use Rattle.history.specs.ArmLegal.{IsArmLegal}
use Rattle.history.specs.Monitor.{at_rest_by}
use Rattle.history.specs.declared.entry.Access.{Access}
use Rattle.history.specs.Accesses.{history_of}
use Rattle.run_record.specs.Limits.{IsRecord}
use Rattle.run_record.specs.declared.records.RunRecord.{RunRecord}
use Rattle.guest_machine.specs.Turns.{IsTrace}
use Rattle.guest_machine.specs.declared.traces.TraceFault.{TraceFault}
use Rattle.guest_machine.specs.declared.traces.TraceFault.TheVariants as fault
use Rattle.guest_core.specs.Machine.{InstructionSet}

module _ {I S : Type 0} (set : InstructionSet I S) where
  -- the record of a trace: the machine's threads, its granule, the budget, and the accesses
  pub record IsTraceRecord (program : Program) (size : Numbers) (seed budget : ℕ) (run : RunRecord) : Type 0 where
    pub threads : run.threads ≡ size.threads
    pub budget_is : run.budget ≡ budget
    pub granule_is : run.granule ≡ size.granule
    pub trace : IsTrace set program size seed budget run.accesses
    pub sound : IsRecord run

-- Arm allows these accesses to the program's memory
abbrev pub IsLegalTrace : Program → Numbers → List Access → Type 0
IsLegalTrace program size accesses = IsArmLegal (at_rest_by size.granule program.bytes size.threads) (history_of accesses)

-- a fault's name
abbrev pub trace_fault_name : TraceFault → List ℕ
trace_fault_name fault.TooLong = codes "TooLong"
trace_fault_name fault.Memory = codes "Memory"
