-- Accesses as records keep them, as entries of a history of memory.
use Rattle.std.specs.Prelude.{ℕ, true, false, List, map}
use Rattle.llsc_base.specs.declared.access.Place.{Place}
use Rattle.llsc_base.specs.declared.access.Size.TheVariants.{B1}
use Rattle.history.specs.declared.entry.Access.{Access}
use Rattle.history.specs.declared.entry.Deed.{Deed}
use Rattle.history.specs.declared.entry.Deed.TheVariants as deed
use Rattle.history.specs.declared.entry.Entry.{Entry}
use Rattle.history.specs.declared.entry.Entry.TheVariants as entry
use Rattle.history.specs.declared.entry.Cause.TheVariants.{Absent}

-- the place of a Clear
abbrev pub nowhere : Place
nowhere = record { addr = 0; size = B1 }

-- an access as an entry of a history: a record keeps no cause of a failure, and Arm's memory asks for none, so it is
-- written as want of a mark
abbrev pub entry_by : Deed → ℕ → Place → ℕ → Entry
entry_by deed.Load thread place value = entry.Read thread place value false
entry_by deed.LoadEx thread place value = entry.Read thread place value true
entry_by deed.Store thread place value = entry.Write thread place value false
entry_by deed.StoreEx thread place value = entry.Write thread place value true
entry_by deed.StoreFail thread place value = entry.Fail thread place value Absent
entry_by deed.Clear thread place value = entry.Clear thread

abbrev pub entry_of : Access → Entry
entry_of access = entry_by access.deed access.thread access.place access.value

-- accesses as a history
abbrev pub history_of : List Access → List Entry
history_of accesses = map entry_of accesses
