-- Only proofs and inner contracts need these words.
-- A record that was read, and the program of which it is to be a run.
use Rattle.std.specs.Prelude.{◌≡◌, ℕ, List, Option, Some, Result, Ok, Err}
use Rattle.run_record.specs.Limits.{IsRecord}
use Rattle.run_record.specs.Reading.{record_of}
use Rattle.run_record.specs.declared.faults.RecordFault.{RecordFault}
use Rattle.run_record.specs.declared.records.RunRecord.{RunRecord}
use Rattle.llsc_words.specs.declared.formats.Format.{Format}
use Rattle.llsc_files.specs.Programs.{program_refusal, IsLoaded}
use Rattle.llsc_files.specs.Refusals.{machine_of}
use Rattle.llsc_call.specs.Check.{record_fault_text}
use Rattle.llsc_call.specs.declared.commands.record_files.RecordedRun.{RecordedRun}

-- what stands against a record that is read so: its fault, or else that there is no machine of its threads and its granule, or that
-- the program has a fault there
abbrev pub read_refusal : Format → ℕ → List ℕ → Result RunRecord RecordFault → Option (List ℕ)
read_refusal format mem file (Err fault) = Some (record_fault_text fault)
read_refusal format mem file (Ok run) = program_refusal format (machine_of mem run.threads run.granule) file

-- the record was read, and the program was loaded on such a machine
pub record AreHad (format : Format) (mem : ℕ) (file recorded : List ℕ) (had : RecordedRun) : Type 0 where
  pub read : record_of recorded ≡ Ok had.run
  pub limits : IsRecord had.run
  pub loaded : IsLoaded format (machine_of mem had.run.threads had.run.granule) file had.loaded
