-- Memory of the worked histories of a thread alone.
use Rattle.std.specs.Prelude.{ℕ, List, replicate}
use Rattle.llsc_base.specs.declared.access.Place.{Place}
use Rattle.llsc_base.specs.declared.access.Size.TheVariants.{B4}
use Rattle.history.specs.Monitor.{Monitor, at_rest_by, monitor_after}
use Rattle.history.specs.declared.entry.Entry.{Entry}

-- the word at address 0
abbrev pub first_word : Place
first_word = record { addr = 0; size = B4 }

-- 32 bytes that are 0
abbrev pub zeros : List ℕ
zeros = replicate 32 0

-- memory of these bytes with rows of this granule, after accesses of its one thread
abbrev pub lone_after : ℕ → List Entry → Monitor
lone_after granule accesses = monitor_after (at_rest_by granule zeros 1) accesses
