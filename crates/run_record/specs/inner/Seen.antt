-- Only proofs and inner contracts need these words.
-- What the values of the code stand for.
use Rattle.std.specs.Prelude.{ℕ, List, Option, option_map, Result, Ok, Err}
use Rattle.std.specs.Borrow.{Bor}
use Rattle.history.specs.declared.entry.Access.{Access}
use Rattle.run_record.specs.declared.faults.RecordFault.{RecordFault}
use Rattle.run_record.specs.declared.faults.RecordFault.TheVariants as fault
use Rattle.run_record.specs.declared.lines.Told.{Told}
use Rattle.run_record.specs.Fields.{Read}

-- what was read, with what is behind it as bytes
abbrev pub read_seen : {A : Type 0} → Option (A × Bor (List ℕ)) → Read A
read_seen read = option_map (λ x. (x.0, x.1.now)) read

-- a line, as the access that it tells of
abbrev pub told_access : Told → Access
told_access told = record { thread = told.thread; deed = told.deed; place = told.place; value = told.value }

abbrev pub line_seen : Option (Told × Bor (List ℕ)) → Read Access
line_seen read = option_map (λ x. (told_access x.0, x.1.now)) read

-- the access that was read, or its fault
abbrev pub access_seen : Result (Access × Bor (List ℕ)) RecordFault → Result (Access × List ℕ) RecordFault
access_seen (Ok x) = Ok (x.0, x.1.now)
access_seen (Err cause) = Err cause

-- the fault that was read, or want of memory
abbrev pub fault_or_memory : {A : Type 0} → Result A RecordFault → RecordFault
fault_or_memory (Ok x) = fault.Memory
fault_or_memory (Err cause) = cause
