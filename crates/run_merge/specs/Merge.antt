-- Merges of a history: each thread's accesses in order, each with the stamp that it has in the history.
use Rattle.std.specs.Prelude.{◌≡◌, ℕ, List, codes}
use Rattle.llsc_base.specs.Sizes.{Numbers}
use Rattle.history.specs.Accesses.{history_of}
use Rattle.history.specs.declared.entry.Access.{Access}
use Rattle.history.specs.declared.entry.Entry.{Entry}
use Rattle.run_merge.specs.Logs.{log_of}
use Rattle.run_merge.specs.declared.merges.MergeFault.{MergeFault}
use Rattle.run_merge.specs.declared.merges.MergeFault.TheVariants as fault

-- the log of each thread, of a merge and of the history, is the same
abbrev pub IsMerge : Numbers → List Entry → List Access → Type 0
IsMerge size history merged = (thread : ℕ) → log_of size thread (history_of merged) ≡ log_of size thread history

-- a fault's name
abbrev pub merge_fault_name : MergeFault → List ℕ
merge_fault_name fault.TooLong = codes "TooLong"
merge_fault_name fault.Memory = codes "Memory"
