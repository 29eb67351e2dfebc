-- Who replies to the accesses of a thread: what may be asked of it, which replies fit, and where they lead.
use Rattle.std.specs.Prelude.{ℕ, ◌+◌, ◌^◌, ◌<◌, ◌≤◌, IsTrue, Option, Some, None, List, [], ◌∷◌, ◌++◌}
use Rattle.llsc_base.specs.Memory.{is_aligned, size_bytes}
use Rattle.llsc_base.specs.declared.outside.Ask.{Ask}
use Rattle.llsc_base.specs.declared.outside.Ask.TheVariants.{Load, LoadEx, Store, StoreEx, Clear}
use Rattle.guest_core.specs.Machine.{ValueFits}

-- the place of an access is aligned and lies in memory
abbrev pub IsPlaced : ℕ → Ask → Type 0
IsPlaced mem (Load place) = IsTrue (is_aligned place) × (place.addr + size_bytes place.size ≤ mem)
IsPlaced mem (LoadEx place) = IsTrue (is_aligned place) × (place.addr + size_bytes place.size ≤ mem)
IsPlaced mem (Store place value) = IsTrue (is_aligned place) × (place.addr + size_bytes place.size ≤ mem)
IsPlaced mem (StoreEx place value) = IsTrue (is_aligned place) × (place.addr + size_bytes place.size ≤ mem)
IsPlaced mem Clear = Unit {0}

-- an access that may be made: its place is in memory, and its value fits the place
abbrev pub IsAskIn : ℕ → Ask → Type 0
IsAskIn mem ask = IsPlaced mem ask × ValueFits ask

-- a load's reply is a value of its size
abbrev pub ReplyFits : Ask → ℕ → Type 0
ReplyFits (Load place) reply = reply < 256 ^ size_bytes place.size
ReplyFits (LoadEx place) reply = reply < 256 ^ size_bytes place.size
ReplyFits _ reply = Unit {0}

-- From a port to another by accesses and the replies to them, one after another, where each reply leads on as this says. A store
-- that is refused leads on too, and stands for nothing.
pub data Leads {S : Type 0} (replies : S → Ask → Option ℕ → S → Type 0) (from : S) : List (Ask × ℕ) → S → Type 0 where
  stays : Leads replies from [] from
  goes : (pairs : List (Ask × ℕ)) (at next : S) (ask : Ask) (reply : ℕ)
      → Leads replies from pairs at → replies at ask (Some reply) next
      → Leads replies from (pairs ++ (ask, reply) ∷ []) next
  refused : (pairs : List (Ask × ℕ)) (at next : S) (ask : Ask)
      → Leads replies from pairs at → replies at ask None next
      → Leads replies from pairs next

-- it is a store, and memory refuses one at its address; a store-exclusive fails instead
abbrev pub IsRefused : (ℕ → Type 0) → Ask → Type 0
IsRefused refuses (Store place value) = refuses place.addr
IsRefused refuses _ = ⊥
