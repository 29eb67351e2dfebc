-- Entries of a history, this project's own: whose they are, and which of them are accesses.
use Rattle.std.specs.Prelude.{ℕ, ◌==◌, Bool, true, false}
use Rattle.llsc_base.specs.Memory.{class_of, row_of}
use Rattle.llsc_base.specs.Sizes.{Numbers}
use Rattle.llsc_base.specs.declared.access.Place.{Place}
use Rattle.history.specs.declared.entry.Entry.{Entry}
use Rattle.history.specs.declared.entry.Entry.TheVariants.{Read, Write, Fail, Clear, Watch, Miss, Begin, End, Start}

-- the thread of an entry
abbrev pub thread_of : Entry → ℕ
thread_of (Read thread place value ex) = thread
thread_of (Write thread place value ex) = thread
thread_of (Fail thread place value cause) = thread
thread_of (Clear thread) = thread
thread_of (Watch thread place) = thread
thread_of (Miss thread place) = thread
thread_of (Begin thread place) = thread
thread_of (End thread place) = thread
thread_of (Start thread child entry arg) = thread

-- loads, stores, store-exclusives that failed, and CLREX
abbrev pub is_access : Entry → Bool
is_access (Read thread place value ex) = true
is_access (Write thread place value ex) = true
is_access (Fail thread place value cause) = true
is_access (Clear thread) = true
is_access (Watch thread place) = false
is_access (Miss thread place) = false
is_access (Begin thread place) = false
is_access (End thread place) = false
is_access (Start thread child entry arg) = false

-- a place lies in the class of a row, of a machine of this size
abbrev pub is_in_class : Numbers → ℕ → Place → Bool
is_in_class size row place = class_of size.classes (row_of size.granule place) == class_of size.classes row
