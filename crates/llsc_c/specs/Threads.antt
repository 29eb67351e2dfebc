-- What a call does with the handle that a struct of C's holds. This project's own.
use Rattle.std.specs.Prelude.{◌≡◌, ◌⊎◌, ◌+◌, ℕ, true, false, List, [], length, Option, Some}
use Rattle.std.specs.Arc.{arc_value}
use Rattle.llsc_base.specs.Sizes.{AreInRange, Numbers}
use Rattle.history.specs.Operation.{load_missed, load_watched}
use Rattle.shared_memory.specs.Seen.{IsFront, longer}
use Rattle.memory_handle.specs.Accesses.{Makes}
use Rattle.memory_handle.specs.Handles.{AreAlike, SaysAllOfThreads, handle_origin, handle_seen}
use Rattle.memory_handle.specs.Left.{IsLeft}
use Rattle.memory_handle.specs.declared.handles.Handle.{Handle}

-- a struct that held a handle holds one still, of the same memory and with the same threads, to which this was done
pub record Becomes (did : Handle → Handle → Type 0) (old new : Option Handle) : Type 0 where
  pub from : Handle
  pub to : Handle
  pub was : old ≡ Some from
  pub is : new ≡ Some to
  pub alike : AreAlike from to
  pub does : did from to

-- a load-exclusive was made, by which its thread holds a reservation, or none
abbrev pub MakesLoadEx : ℕ → ℕ → ℕ → Handle → Handle → Type 0
MakesLoadEx addr width value old new = Makes addr width (λ place. load_watched place value) old new ⊎ Makes addr width (λ place. load_missed place value) old new

-- a handle has the memory and the threads that it had, they have seen the same, and may be split as before
pub record IsAsBefore (old new : Handle) : Type 0 where
  pub memory : arc_value new.memory ≡ arc_value old.memory
  pub numbers : (new.first ≡ old.first) × (new.upto ≡ old.upto)
  pub seen : handle_seen new ≡ handle_seen old
  pub fresh : new.fresh ≡ old.fresh

-- a memory was made of these numbers, which are in their ranges, and of these bytes, as many as they say; the handle has all of
-- its threads, which begin by themselves, have seen nothing and may be split
pub record IsOpened (size : Numbers) (bytes : List ℕ) (new : Option Handle) : Type 0 where
  pub handle : Handle
  pub is : new ≡ Some handle
  pub range : AreInRange size
  pub sized : length bytes ≡ size.mem
  pub origin : handle_origin handle ≡ record { size = size; first = size.threads; spare = 0; bytes = bytes; spends = true; steady = true }
  pub seen : handle_seen handle ≡ []
  pub all : (handle.first ≡ 0) × (handle.upto ≡ size.threads)
  pub fresh : handle.fresh ≡ true

-- the last thread of several was split off into a handle of its own, of the same memory; all have seen what they had, and may
-- be split
pub record IsSplit (old new last : Option Handle) : Type 0 where
  pub from : Handle
  pub to : Handle
  pub other : Handle
  pub was : old ≡ Some from
  pub is : new ≡ Some to
  pub last_is : last ≡ Some other
  pub memory : (arc_value other.memory ≡ arc_value from.memory) × (arc_value to.memory ≡ arc_value from.memory)
  pub numbers : (other.first + 1 ≡ from.upto) × (other.upto ≡ from.upto) × (to.first ≡ from.first) × (to.upto ≡ other.first)
  pub seen : (handle_seen other ≡ handle_seen from) × (handle_seen to ≡ handle_seen from)
  pub fresh : (other.fresh ≡ true) × (to.fresh ≡ true)

-- a handle has taken in another's threads: it has seen the longer of what both had, of which each is a front, and which says of
-- each one's threads all that it had seen of them; it may not be split any more
pub record IsJoined (old next new : Option Handle) : Type 0 where
  pub mine : Handle
  pub yours : Handle
  pub both : Handle
  pub was : old ≡ Some mine
  pub next_was : next ≡ Some yours
  pub is : new ≡ Some both
  pub memory : arc_value both.memory ≡ arc_value mine.memory
  pub numbers : (both.first ≡ mine.first) × (both.upto ≡ yours.upto)
  pub seen : handle_seen both ≡ longer (handle_seen mine) (handle_seen yours)
  pub fronts : IsFront (handle_seen mine) (handle_seen both) × IsFront (handle_seen yours) (handle_seen both)
  pub says_mine : SaysAllOfThreads both mine
  pub says_yours : SaysAllOfThreads both yours
  pub used : both.fresh ≡ false

-- a memory was closed: what all of its threads have seen is its whole history, which leaves these bytes
pub record IsClosed (old : Option Handle) (bytes : List ℕ) : Type 0 where
  pub handle : Handle
  pub was : old ≡ Some handle
  pub left : IsLeft handle bytes
