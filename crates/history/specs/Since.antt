-- What stands in a history since the last entry of some kind: words of this project's own.
use Rattle.std.specs.Prelude.{ℕ, ◌==◌, if◌then◌else◌, Bool, false, Option, Some, None, List, [], ◌∷◌}
use Rattle.llsc_base.specs.declared.access.Place.{Place}
use Rattle.history.specs.declared.entry.Entry.{Entry}
use Rattle.history.specs.declared.entry.Entry.TheVariants.{Watch, Begin, End}

-- the place of an entry of that kind, and the entries after it
pub record Since : Type 0 where
  pub place : Place
  pub later : List Entry

-- the later one, or else this entry where it is of the kind
abbrev pub or_here : Option Since → Option Place → List Entry → Option Since
or_here (Some since) here later = Some since
or_here None (Some place) later = Some (record { place = place; later = later })
or_here None None later = None

-- the last entry of a kind, with what stands after it; a kind gives the place of each entry that is of it
abbrev pub since_last : (Entry → Option Place) → List Entry → Option Since
since_last kind [] = None
since_last kind (entry ∷ entries) = or_here (since_last kind entries) (kind entry) entries

-- the Watches of a thread
abbrev pub watch_of : ℕ → Entry → Option Place
watch_of thread (Watch other place) = if other == thread then Some place else None
watch_of thread _ = None

-- the Begins of a thread
abbrev pub begin_of : ℕ → Entry → Option Place
begin_of thread (Begin other place) = if other == thread then Some place else None
begin_of thread _ = None

-- an End of a thread
abbrev pub is_end_of : ℕ → Entry → Bool
is_end_of thread (End other place) = other == thread
is_end_of thread _ = false
