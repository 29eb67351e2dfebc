-- What memory makes of what threads ask.
use Rattle.std.specs.Prelude.{ℕ, List}
use Rattle.llsc_base.specs.Images.{Program}
use Rattle.llsc_base.specs.Sizes.{Numbers}
use Rattle.history.specs.Accesses.{history_of, nowhere}
use Rattle.history.specs.Made.{made}
use Rattle.history.specs.Monitor.{Monitor, at_rest_by, monitor_after}
use Rattle.history.specs.declared.entry.Access.{Access}
use Rattle.history.specs.declared.entry.Deed.TheVariants as deed
use Rattle.llsc_base.specs.declared.outside.Ask.{Ask}
use Rattle.llsc_base.specs.declared.outside.Ask.TheVariants.{Load, LoadEx, Store, StoreEx, Clear}

-- the access that a thread tries by what it asks. A load is tried with no value, and CLREX has the place of one byte at
-- address 0.
abbrev pub tried_by : ℕ → Ask → Access
tried_by t (Load place) = record { thread = t; deed = deed.Load; place = place; value = 0 }
tried_by t (LoadEx place) = record { thread = t; deed = deed.LoadEx; place = place; value = 0 }
tried_by t (Store place value) = record { thread = t; deed = deed.Store; place = place; value = value }
tried_by t (StoreEx place value) = record { thread = t; deed = deed.StoreEx; place = place; value = value }
tried_by t Clear = record { thread = t; deed = deed.Clear; place = nowhere; value = 0 }

-- the access that memory makes of what a thread asks: a load has the value of its place, and a store-exclusive stores just
-- where the thread is marked on the row
abbrev pub access_by : Monitor → ℕ → Ask → Access
access_by monitor t ask = made monitor (tried_by t ask)

-- memory and its monitors after these accesses of so many threads
abbrev pub monitor_of : Program → Numbers → List Access → Monitor
monitor_of program size accesses = monitor_after (at_rest_by size.granule program.bytes size.threads) (history_of accesses)
