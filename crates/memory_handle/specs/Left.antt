-- What a memory leaves that is closed. This project's own.
use Rattle.std.specs.Prelude.{◌≡◌, ◌/◌, List, map, ℕ}
use Rattle.std.specs.List.{range_with_len}
use Rattle.row_bytes.specs.Cell.{bytes_of_cells}
use Rattle.history.specs.declared.entry.Entry.{Entry}
use Rattle.shared_memory.specs.Origin.{Origin}
use Rattle.version_rule.specs.Left.{IsOver, cell_left}
use Rattle.memory_handle.specs.Handles.{handle_origin, handle_seen}
use Rattle.memory_handle.specs.declared.handles.Handle.{Handle}

-- the bytes of the memory that a history leaves, cell by cell
abbrev pub bytes_left : Origin → List Entry → List ℕ
bytes_left origin history = bytes_of_cells (map (cell_left origin history) (range_with_len 0 (origin.size.mem / 8)))

-- what the threads of a handle have seen is a whole history, after which no call is in flight, and it leaves these bytes
pub record IsLeft (handle : Handle) (bytes : List ℕ) : Type 0 where
  pub over : IsOver (handle_origin handle) (handle_seen handle)
  pub bytes_are : bytes ≡ bytes_left (handle_origin handle) (handle_seen handle)
