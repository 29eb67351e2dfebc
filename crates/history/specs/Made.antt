-- What memory makes of an access that is tried (DDI 0406C A3.4.1, A3.4.2).
use Rattle.std.specs.Prelude.{ℕ, if◌then◌else◌}
use Rattle.llsc_base.specs.Memory.{row_of, value_at}
use Rattle.llsc_base.specs.declared.access.Place.{Place}
use Rattle.history.specs.Monitor.{Monitor, is_on, marked_row}
use Rattle.history.specs.declared.entry.Access.{Access}
use Rattle.history.specs.declared.entry.Deed.{Deed}
use Rattle.history.specs.declared.entry.Deed.TheVariants as deed

-- a store-exclusive stores just where its thread is marked on the row; one that is to fail fails, and any other access is
-- what it is
abbrev pub made_deed : Monitor → Deed → ℕ → Place → Deed
made_deed monitor deed.StoreEx thread place = if is_on (row_of monitor.granule place) (marked_row monitor thread) then deed.StoreEx else deed.StoreFail
made_deed monitor tried thread place = tried

-- a load has the value of its place, and any other access its own
abbrev pub made_value : Monitor → Deed → Place → ℕ → ℕ
made_value monitor deed.Load place value = value_at monitor.memory place
made_value monitor deed.LoadEx place value = value_at monitor.memory place
made_value monitor tried place value = value

-- the access that comes of one that is tried
abbrev pub made : Monitor → Access → Access
made monitor tried = record {
  thread = tried.thread;
  deed = made_deed monitor tried.deed tried.thread tried.place;
  place = tried.place;
  value = made_value monitor tried.deed tried.place tried.value;
}
