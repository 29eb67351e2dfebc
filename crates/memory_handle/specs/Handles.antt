-- What a handle holds. This project's own.
use Rattle.std.specs.Prelude.{◌≡◌, ◌≤◌, ◌<◌, ◌==◌, ◌&&◌, ℕ, Bool, List, []}
use Rattle.std.specs.Arc.{arc_value}
use Rattle.history.specs.Parts.{entries_of}
use Rattle.history.specs.declared.entry.Entry.{Entry}
use Rattle.shared_memory.specs.Origin.{Origin}
use Rattle.version_memory.specs.Memory.{memory_origin, pass_seen}
use Rattle.memory_handle.specs.declared.handles.Handle.{Handle}

-- what the memory of a handle was made with
abbrev pub handle_origin : Handle → Origin
handle_origin handle = memory_origin (arc_value handle.memory)

-- what the threads of a handle have seen of the memory's history
abbrev pub handle_seen : Handle → List Entry
handle_seen handle = pass_seen handle.pass

-- whether a handle has all threads of its memory
abbrev pub has_all : Handle → Bool
has_all handle = handle.first == 0 && handle.upto == (handle_origin handle).size.threads

-- two handles have one memory and the same threads, and may be split alike
pub record AreAlike (old new : Handle) : Type 0 where
  pub memory : arc_value new.memory ≡ arc_value old.memory
  pub first : new.first ≡ old.first
  pub upto : new.upto ≡ old.upto
  pub fresh : new.fresh ≡ old.fresh

-- what one handle has seen says of the threads of another all that this one has seen
abbrev pub SaysAllOfThreads : Handle → Handle → Type 0
SaysAllOfThreads whole part = (thread : ℕ) → part.first ≤ thread → thread < part.upto
    → entries_of thread (handle_seen whole) ≡ entries_of thread (handle_seen part)

-- none of the threads of a handle has made an access
abbrev pub IsUnused : Handle → Type 0
IsUnused handle = (thread : ℕ) → handle.first ≤ thread → thread < handle.upto → entries_of thread (handle_seen handle) ≡ []
