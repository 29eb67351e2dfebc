-- Memory as all threads have left it. This project's own.
use Rattle.std.specs.Prelude.{ℕ, List}
use Rattle.row_bytes.specs.Cell.{cell_at}
use Rattle.history.specs.Cause.{KeepsLimit}
use Rattle.history.specs.Legal.{IsComplete}
use Rattle.history.specs.Monitor.{at_rest_by, monitor_after}
use Rattle.history.specs.Parts.{accesses_of}
use Rattle.history.specs.Steady.{AreSteady}
use Rattle.history.specs.declared.entry.Entry.{Entry}
use Rattle.shared_memory.specs.Origin.{IsLegalFrom, Origin}

-- a history after which no call is in flight: it is legal and complete, no class has had more writes than it may have, and each
-- store-exclusive that has lost has lost to a write of another thread
pub record IsOver (origin : Origin) (history : List Entry) : Type 0 where
  pub legal : IsLegalFrom origin history
  pub complete : IsComplete history
  pub few : KeepsLimit origin.size history
  pub steady : AreSteady origin.size history

-- a cell of the memory that a history leaves
abbrev pub cell_left : Origin → List Entry → ℕ → ℕ
cell_left origin history = cell_at (monitor_after (at_rest_by origin.size.granule origin.bytes origin.size.threads) (accesses_of history)).memory
