-- The names of the faults, as they are printed.
use Rattle.std.specs.Prelude.{ℕ, codes, List}
use Rattle.run_record.specs.declared.faults.RecordFault.{RecordFault}
use Rattle.run_record.specs.declared.faults.RecordFault.TheVariants as fault

-- the name of a fault
abbrev pub record_fault_name : RecordFault → List ℕ
record_fault_name fault.Header = codes "Header"
record_fault_name fault.TooLong = codes "TooLong"
record_fault_name (fault.Line n) = codes "Line"
record_fault_name (fault.Thread n) = codes "Thread"
record_fault_name fault.Memory = codes "Memory"
