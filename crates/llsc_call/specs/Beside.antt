-- What threads of a program have done that ran beside each other, once their memory is closed.
use Rattle.std.specs.Prelude.{◌≡◌, ℕ, ◌<◌, ◌*◌, List, length, slice_index}
use Rattle.llsc_base.specs.Images.{Program}
use Rattle.llsc_base.specs.Sizes.{Numbers}
use Rattle.row_bytes.specs.Cell.{cell_at}
use Rattle.history.specs.Monitor.{at_rest_by, monitor_after}
use Rattle.history.specs.Parts.{accesses_of}
use Rattle.history.specs.declared.entry.Entry.{Entry}
use Rattle.guest_core.specs.Machine.{InstructionSet}
use Rattle.guest_thread.specs.BegunOutcome.{IsOutcomeFrom}
use Rattle.guest_thread.specs.Outcome.{IsOutcome}
use Rattle.guest_thread.specs.declared.ends.GuestEnd.{GuestEnd}
use Rattle.llsc_report.specs.Report.{HasSums}
use Rattle.llsc_call.specs.Versions.{KeepsVersions}
use Rattle.a32_step.specs.Machine.{a32}

-- the memory that a history leaves, from a program's bytes on
abbrev pub left_by : Program → Numbers → List Entry → List ℕ
left_by program size history = (monitor_after (at_rest_by size.granule program.bytes size.threads) (accesses_of history)).memory

-- these are the cells of a memory, as many as a machine has
pub record AreCells (size : Numbers) (memory cells : List ℕ) : Type 0 where
  pub count : 8 * length cells ≡ size.mem
  pub each : (i : ℕ) → i < length cells → slice_index cells i ≡ cell_at memory i

-- the threads, of instructions of this set, ended so by a history of memory that is kept by versions, and it left these cells
pub record HaveRun {I S : Type 0} (set : InstructionSet I S) (program : Program) (size : Numbers) (budget : ℕ) (history : List Entry) (ends : List GuestEnd) (cells : List ℕ) : Type 0 where
  pub outcome : IsOutcome set program size budget history ends
  pub versions : KeepsVersions size history
  pub sums : HasSums ends
  pub left : AreCells size (left_by program size history) cells

-- so many threads began by themselves, each of which could start so many more; all that have begun ended so, by a history of memory
-- that is kept by versions, and it left these cells
pub record HaveRunFrom (program : Program) (size : Numbers) (first spare budget : ℕ) (history : List Entry) (ends : List GuestEnd) (cells : List ℕ) : Type 0 where
  pub outcome : IsOutcomeFrom a32 program size first spare budget history ends
  pub versions : KeepsVersions size history
  pub sums : HasSums ends
  pub left : AreCells size (left_by program size history) cells
