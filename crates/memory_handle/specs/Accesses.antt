-- What comes of an access by the thread of a handle: where it stands in the memory's history, and what was so there. This
-- project's own.
use Rattle.std.specs.Prelude.{◌≡◌, ℕ, true, false, List, []}
use Rattle.llsc_base.specs.Memory.{size_bytes}
use Rattle.llsc_base.specs.declared.access.Place.{Place}
use Rattle.history.specs.Operation.{Operation, entries_of_operation, fail, store}
use Rattle.history.specs.declared.entry.Cause.{Cause}
use Rattle.history.specs.declared.entry.Entry.{Entry}
use Rattle.history.specs.declared.entry.Entry.TheVariants.{Begin}
use Rattle.shared_memory.specs.Seen.{Sees}
use Rattle.version_rule.specs.Exact.{IsAtLimit, IsUndisturbed}
use Rattle.version_memory.specs.Exact.{HasFailedAt, IsContended}
use Rattle.version_memory.specs.Stands.{HasRoom, Stands}
use Rattle.memory_handle.specs.Handles.{handle_origin, handle_seen}
use Rattle.memory_handle.specs.declared.handles.Handle.{Handle}

-- the place of so many bytes from an address up
pub record IsPlaceOf (addr width : ℕ) (place : Place) : Type 0 where
  pub addr_is : place.addr ≡ addr
  pub width_is : size_bytes place.size ≡ width

-- the thread of a handle has seen more of the history, which is legal, and in it of its own just these entries
abbrev pub Adds : List Entry → Handle → Handle → Type 0
Adds entries old new = Sees (handle_origin old) old.first (handle_seen old) entries (handle_seen new)

-- the thread of a handle has made an access at a place
pub record Makes (addr width : ℕ) (operation : Place → Operation) (old new : Handle) : Type 0 where
  pub place : Place
  pub place_is : IsPlaceOf addr width place
  pub sees : Adds (entries_of_operation old.first (operation place)) old new

-- a store is done, and began where its class might take a write
pub record HasStored (addr width value : ℕ) (old new : Handle) : Type 0 where
  pub place : Place
  pub place_is : IsPlaceOf addr width place
  pub sees : Adds (entries_of_operation old.first (store place value false)) old new
  pub room : HasRoom (handle_origin old).size place (Begin old.first place) (handle_seen old) (handle_seen new)

-- a store was not done, since a write of its class was in flight
pub record HasMetWrite (addr width : ℕ) (old new : Handle) : Type 0 where
  pub place : Place
  pub place_is : IsPlaceOf addr width place
  pub sees : Adds [] old new
  pub contended : IsContended (handle_origin old).size place (handle_seen old) (handle_seen new)

-- a store was not done, since its class has had all of its writes
pub record HasFoundSpent (addr width : ℕ) (old new : Handle) : Type 0 where
  pub place : Place
  pub place_is : IsPlaceOf addr width place
  pub sees : Adds [] old new
  pub spent : IsAtLimit (handle_origin old).size place (handle_seen new)

-- a store-exclusive has succeeded: its thread was undisturbed where it began
pub record HasStoredEx (addr width value : ℕ) (old new : Handle) : Type 0 where
  pub place : Place
  pub place_is : IsPlaceOf addr width place
  pub sees : Adds (entries_of_operation old.first (store place value true)) old new
  pub exact : Stands (IsUndisturbed (handle_origin old).size old.first place) (Begin old.first place) (handle_seen old) (handle_seen new)

-- a store-exclusive has failed: its thread was not undisturbed there
pub record HasFailedEx (addr width value : ℕ) (old new : Handle) : Type 0 where
  pub place : Place
  pub place_is : IsPlaceOf addr width place
  pub cause : Cause
  pub sees : Adds (entries_of_operation old.first (fail place value cause)) old new
  pub exact : HasFailedAt (handle_origin old).size old.first place value (handle_seen old) (handle_seen new)
