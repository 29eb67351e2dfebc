-- The log of a thread: its accesses in a history, each with its stamp.
use Rattle.std.specs.Prelude.{◌≡◌, length, take, ℕ, ◌==◌, ◌&&◌, if◌then◌else◌, Bool, true, false, List, [], ◌∷◌, ◌++◌}
use Rattle.llsc_base.specs.Memory.{row_of}
use Rattle.llsc_base.specs.Sizes.{Numbers}
use Rattle.history.specs.Accesses.{nowhere}
use Rattle.history.specs.Cause.{writes_in_class}
use Rattle.history.specs.Entry.{is_access, thread_of}
use Rattle.history.specs.declared.entry.Access.{Access}
use Rattle.history.specs.declared.entry.Deed.TheVariants as deed
use Rattle.history.specs.declared.entry.Entry.{Entry}
use Rattle.history.specs.declared.entry.Entry.TheVariants.{Read, Write, Fail}
use Rattle.run_record.specs.Limits.{most_accesses}
use Rattle.run_merge.specs.declared.logs.Stamped.{Stamped}

-- an access of a history as a record keeps it; the last line is that of a Clear, and what it says of entries that are no accesses
-- nobody asks
abbrev pub access_of : Entry → Access
access_of (Read thread place value true) = record { thread = thread; deed = deed.LoadEx; place = place; value = value }
access_of (Read thread place value false) = record { thread = thread; deed = deed.Load; place = place; value = value }
access_of (Write thread place value true) = record { thread = thread; deed = deed.StoreEx; place = place; value = value }
access_of (Write thread place value false) = record { thread = thread; deed = deed.Store; place = place; value = value }
access_of (Fail thread place value cause) = record { thread = thread; deed = deed.StoreFail; place = place; value = value }
access_of entry = record { thread = thread_of entry; deed = deed.Clear; place = nowhere; value = 0 }

-- the stamp of a Read or a Write that stands behind these entries: how many Writes of its class are among them
abbrev pub stamp_behind : Numbers → List Entry → Entry → ℕ
stamp_behind size past (Read thread place value ex) = writes_in_class size (row_of size.granule place) past
stamp_behind size past (Write thread place value ex) = writes_in_class size (row_of size.granule place) past
stamp_behind size past _ = 0

abbrev pub stamped : Numbers → List Entry → Entry → Stamped
stamped size past entry = record { access = access_of entry; stamp = stamp_behind size past entry }

-- an access of a thread
abbrev pub is_own : ℕ → Entry → Bool
is_own thread entry = is_access entry && (thread_of entry == thread)

-- the accesses of a thread among entries that stand behind others, each with its stamp
abbrev pub logged : Numbers → ℕ → List Entry → List Entry → List Stamped
logged size thread past [] = []
logged size thread past (entry ∷ entries) =
    if is_own thread entry then stamped size past entry ∷ logged size thread (past ++ entry ∷ []) entries
    else logged size thread (past ++ entry ∷ []) entries

-- those of a whole history
abbrev pub log_of : Numbers → ℕ → List Entry → List Stamped
log_of size thread history = logged size thread [] history

-- how many of a thread's accesses are kept, as many as a record may have
unfoldable pub most_logged : ℕ
most_logged = most_accesses

-- the first of a thread's accesses, and how many there are
pub record IsFirst (all first : List Stamped) (count : ℕ) : Type 0 where
  pub count_is : count ≡ length all
  pub first_are : first ≡ take most_logged all

-- these are of a thread's log by what was seen
abbrev pub IsLogOf : Numbers → ℕ → List Entry → List Stamped → ℕ → Type 0
IsLogOf size thread seen first count = IsFirst (log_of size thread seen) first count
