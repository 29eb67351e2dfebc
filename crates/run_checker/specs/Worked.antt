-- Accesses of the worked verdicts, and their memory.
use Rattle.std.specs.Prelude.{ℕ, List, replicate}
use Rattle.llsc_base.specs.declared.access.Place.{Place}
use Rattle.llsc_base.specs.declared.access.Size.TheVariants.{B1, B4}
use Rattle.history.specs.Monitor.{Monitor, at_rest_by, monitor_after}
use Rattle.history.specs.declared.entry.Access.{Access}
use Rattle.history.specs.declared.entry.Deed.{Deed}
use Rattle.history.specs.declared.entry.Entry.{Entry}

-- the word at address 0, the byte there, the other word of its row, and the first of the next row
abbrev pub word : Place
word = record { addr = 0; size = B4 }

abbrev pub low_byte : Place
low_byte = record { addr = 0; size = B1 }

abbrev pub beside : Place
beside = record { addr = 4; size = B4 }

abbrev pub next_row : Place
next_row = record { addr = 8; size = B4 }

-- an access of thread 0
abbrev pub access_as : Deed → Place → ℕ → Access
access_as deed place value = record { thread = 0; deed = deed; place = place; value = value }

-- sixteen bytes that are 0, with rows of this granule, after accesses of their one thread
abbrev pub zeros_after : ℕ → List Entry → Monitor
zeros_after granule accesses = monitor_after (at_rest_by granule (replicate 16 0) 1) accesses
