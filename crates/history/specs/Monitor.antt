-- Memory and Arm's exclusive monitors after a list of accesses (DDI 0406C A3.4.1, A3.4.2).
use Rattle.std.specs.Prelude.{◌≡◌, ℕ, ◌==◌, Bool, true, false, if◌then◌else◌, Option, Some, None, List, [], ◌∷◌, length, map, replicate, slice_index_or, slice_set}
use Rattle.std.specs.List.{list_any}
use Rattle.std.specs.Option.{is_some}
use Rattle.llsc_base.specs.Memory.{row_of, stored}
use Rattle.history.specs.declared.entry.Entry.{Entry}
use Rattle.history.specs.declared.entry.Entry.TheVariants.{Read, Write, Fail, Clear}

-- the bytes of memory, for each thread, in order of number, the row on which it is marked, if it is, and the granule
-- number, by which rows have their width
pub record Monitor : Type 0 where
  pub memory : List ℕ
  pub marks : List (Option ℕ)
  pub granule : ℕ

-- memory as it is given, and none of so many threads marked on its rows
abbrev pub at_rest_by : (granule : ℕ) → List ℕ → ℕ → Monitor
at_rest_by granule bytes threads = record { memory = bytes; marks = replicate threads None; granule = granule }

-- the same where rows have eight bytes
abbrev pub at_rest : List ℕ → ℕ → Monitor
at_rest bytes threads = at_rest_by 0 bytes threads

-- as many bytes, as many threads, and rows as wide
pub record IsAsLarge (old new : Monitor) : Type 0 where
  pub bytes : length new.memory ≡ length old.memory
  pub threads : length new.marks ≡ length old.marks
  pub granule : new.granule ≡ old.granule

-- the row on which a thread is marked, if it is
abbrev pub marked_row : Monitor → ℕ → Option ℕ
marked_row monitor thread = slice_index_or monitor.marks thread None

-- some thread is marked on a row
abbrev pub is_some_marked : List (Option ℕ) → Bool
is_some_marked marks = list_any is_some marks

-- a mark is on a row
abbrev pub is_on : ℕ → Option ℕ → Bool
is_on row (Some marked) = marked == row
is_on row None = false

-- a mark after a write of a row
abbrev pub unless_on : ℕ → Option ℕ → Option ℕ
unless_on row mark = if is_on row mark then None else mark

-- memory after one more access: a write sets the bytes of its place
abbrev pub memory_after : List ℕ → Entry → List ℕ
memory_after memory (Write thread place value ex) = stored memory place value
memory_after memory _ = memory

-- the marks after one more access. A load-exclusive marks its row for its thread, in place of an earlier mark. A write
-- ends each mark on its row, whosever it is and whatever its value, and an exclusive one also its thread's mark. A
-- store-exclusive that fails, and CLREX, end their thread's mark. (That a thread's own plain store in its marked row ends the
-- mark is this project's choice, which DDI 0406C A3.4.1 leaves open.)
abbrev pub marks_after : (granule : ℕ) → List (Option ℕ) → Entry → List (Option ℕ)
marks_after granule marks (Read thread place value true) = slice_set marks thread (Some (row_of granule place))
marks_after granule marks (Write thread place value true) = slice_set (map (unless_on (row_of granule place)) marks) thread None
marks_after granule marks (Write thread place value false) = map (unless_on (row_of granule place)) marks
marks_after granule marks (Fail thread place value cause) = slice_set marks thread None
marks_after granule marks (Clear thread) = slice_set marks thread None
marks_after granule marks _ = marks

-- memory and marks after one more access
abbrev pub accessed : Monitor → Entry → Monitor
accessed monitor entry = record {
  memory = memory_after monitor.memory entry;
  marks = marks_after monitor.granule monitor.marks entry;
  granule = monitor.granule;
}

-- memory and marks after a list of accesses
abbrev pub monitor_after : Monitor → List Entry → Monitor
monitor_after monitor [] = monitor
monitor_after monitor (entry ∷ entries) = monitor_after (accessed monitor entry) entries
