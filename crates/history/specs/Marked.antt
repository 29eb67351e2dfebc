-- What a monitor's mark says: nobody has written in the row since the load-exclusive that set the mark, whatever the value
-- (DDI 0406C A3.4), so its bytes are those that were read.
use Rattle.std.specs.Prelude.{◌≡◌, ℕ, ◌==◌, ◌&&◌, Bool, true, false, List, ◌∷◌, ◌++◌, slice_index}
use Rattle.std.specs.List.{list_any}
use Rattle.llsc_base.specs.Memory.{row_of, value_at}
use Rattle.llsc_base.specs.declared.access.Place.{Place}
use Rattle.llsc_base.specs.declared.access.Size.TheVariants.{B1}
use Rattle.history.specs.Monitor.{Monitor, monitor_after}
use Rattle.history.specs.declared.entry.Entry.{Entry}
use Rattle.history.specs.declared.entry.Entry.TheVariants.{Read, Write}

-- the place of one byte
abbrev pub byte_place : ℕ → Place
byte_place addr = record { addr = addr; size = B1 }

-- each byte of a row is in one memory what it is in another
abbrev pub KeepsRow : (granule row : ℕ) → List ℕ → List ℕ → Type 0
KeepsRow granule row old new = (k : ℕ) → row_of granule (byte_place k) ≡ row → slice_index new k ≡ slice_index old k

-- a load-exclusive of a thread
abbrev pub is_load_ex : ℕ → Entry → Bool
is_load_ex thread (Read other place value ex) = (other == thread) && ex
is_load_ex thread _ = false

-- a write in a row, whosever it is and whatever its value
abbrev pub is_write_in : (granule row : ℕ) → Entry → Bool
is_write_in granule row (Write thread place value ex) = row_of granule place == row
is_write_in granule row _ = false

-- the last load-exclusive of a thread read this row; nobody has written in the row since, so each byte of it is what it was
pub record IsUnwrittenSince (start : Monitor) (accesses : List Entry) (thread row : ℕ) : Type 0 where
  pub before : List Entry
  pub place : Place
  pub value : ℕ
  pub later : List Entry
  pub are : accesses ≡ before ++ (Read thread place value true ∷ later)
  pub last : list_any (is_load_ex thread) later ≡ false
  pub of_row : row_of start.granule place ≡ row
  pub unwritten : list_any (is_write_in start.granule row) later ≡ false
  pub kept : KeepsRow start.granule row (monitor_after start before).memory (monitor_after start accesses).memory

-- the last load-exclusive of a thread read this row, and memory has now at its place what it read
abbrev pub HoldsWhatWasRead : Monitor → List Entry → (thread row : ℕ) → Type 0
HoldsWhatWasRead start accesses thread row =
    (mark : IsUnwrittenSince start accesses thread row) × (value_at (monitor_after start accesses).memory mark.place ≡ mark.value)
