-- Which lists of accesses Arm's memory and monitors allow (DDI 0406C A3.4).
use Rattle.std.specs.Prelude.{◌≡◌, ℕ, ◌+◌, ◌^◌, ◌<◌, ◌≤◌, true, Some, List, [], ◌∷◌, length}
use Rattle.llsc_base.specs.Memory.{is_aligned, row_of, size_bytes, value_at}
use Rattle.llsc_base.specs.declared.access.Place.{Place}
use Rattle.history.specs.Monitor.{Monitor, accessed, marked_row}
use Rattle.history.specs.declared.entry.Entry.{Entry}
use Rattle.history.specs.declared.entry.Entry.TheVariants.{Read, Write, Fail, Clear}

-- there is such a thread, the place is aligned and lies in memory, and the value is one of its size
pub record IsSound (threads bytes thread : ℕ) (place : Place) (value : ℕ) : Type 0 where
  pub known : thread < threads
  pub aligned : is_aligned place ≡ true
  pub inside : place.addr + size_bytes place.size ≤ bytes
  pub fits : value < 256 ^ size_bytes place.size

-- an access may come next: a read has the value of its place, and an exclusive write stands where its thread is marked
-- on its row (a mark of the history is no access, and nothing is asked of it here)
abbrev pub MayAccess : Monitor → Entry → Type 0
MayAccess monitor (Read thread place value ex) =
    IsSound (length monitor.marks) (length monitor.memory) thread place value
    × (value ≡ value_at monitor.memory place)
MayAccess monitor (Write thread place value ex) =
    IsSound (length monitor.marks) (length monitor.memory) thread place value
    × (ex ≡ true → marked_row monitor thread ≡ Some (row_of monitor.granule place))
MayAccess monitor (Fail thread place value cause) = IsSound (length monitor.marks) (length monitor.memory) thread place value
MayAccess monitor (Clear thread) = thread < length monitor.marks
MayAccess monitor _ = Unit {0}

-- each access of a list may stand where it does
abbrev pub IsArmLegal : Monitor → List Entry → Type 0
IsArmLegal monitor [] = Unit {0}
IsArmLegal monitor (entry ∷ entries) = MayAccess monitor entry × IsArmLegal (accessed monitor entry) entries
