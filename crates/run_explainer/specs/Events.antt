-- The accesses of a record, each with its index and with where it stands.
use Rattle.std.specs.Prelude.{ℕ, ◌+◌, ◌==◌, Bool, true, false, List, [], ◌∷◌}
use Rattle.llsc_base.specs.Memory.{row_of}
use Rattle.history.specs.declared.entry.Access.{Access}
use Rattle.history.specs.declared.entry.Deed.{Deed}
use Rattle.history.specs.declared.entry.Deed.TheVariants as deed
use Rattle.run_checker.specs.declared.sightings.Sighting.{Sighting}
use Rattle.run_explainer.specs.declared.events.Event.{Event}

-- accesses and their sightings as events, the first of which has this index
abbrev pub events_from : ℕ → List Access → List Sighting → List Event
events_from index (access ∷ accesses) (sighting ∷ sightings) =
    record { index = index; access = access; sighting = sighting } ∷ events_from (index + 1) accesses sightings
events_from index _ _ = []

-- those of a record, counted from 0
abbrev pub events_of : List Access → List Sighting → List Event
events_of accesses sightings = events_from 0 accesses sightings

-- the row in which an event's place lies
abbrev pub row_at : (granule : ℕ) → Event → ℕ
row_at granule event = row_of granule event.access.place

-- an event of a thread
abbrev pub is_by : ℕ → Event → Bool
is_by thread event = event.access.thread == thread

-- a load-exclusive, and a write: a store, or a store-exclusive that succeeded
abbrev pub is_load_ex : Deed → Bool
is_load_ex deed.LoadEx = true
is_load_ex _ = false

abbrev pub is_write : Deed → Bool
is_write deed.Store = true
is_write deed.StoreEx = true
is_write _ = false

-- what ends a thread's own reservation wherever it lies: a store-exclusive, whether or not it succeeded, and CLREX
abbrev pub is_ending : Deed → Bool
is_ending deed.StoreEx = true
is_ending deed.StoreFail = true
is_ending deed.Clear = true
is_ending _ = false
