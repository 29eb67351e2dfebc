-- Places, machines and memories of the worked histories.
use Rattle.std.specs.Prelude.{ℕ, Option, List, replicate}
use Rattle.llsc_base.specs.Sizes.{Numbers}
use Rattle.llsc_base.specs.declared.access.Place.{Place}
use Rattle.llsc_base.specs.declared.access.Size.TheVariants.{B1, B2, B4, B8}
use Rattle.history.specs.Monitor.{Monitor, at_rest, at_rest_by, marked_row, monitor_after}
use Rattle.history.specs.declared.entry.Entry.{Entry}

-- the word that is loaded and stored exclusively
abbrev pub word : Place
word = record { addr = 8; size = B4 }

-- the other word of its row
abbrev pub beside : Place
beside = record { addr = 12; size = B4 }

-- the last byte of its row
abbrev pub last_byte : Place
last_byte = record { addr = 15; size = B1 }

-- the row after it
abbrev pub next_row : Place
next_row = record { addr = 16; size = B8 }

-- a small machine of two threads with so many classes, each of which takes one write
abbrev pub small_machine : ℕ → Numbers
small_machine classes = record { mem = 65536; threads = 2; classes = classes; limit = 1; granule = 0 }

-- the same machine with rows of 16 bytes
abbrev pub wide_machine : ℕ → Numbers
wide_machine classes = record (small_machine classes) { granule = 1 }

-- a word in the cell before that of the first word: in the same row where rows have 16 bytes
abbrev pub cell_before : Place
cell_before = record { addr = 0; size = B4 }

-- the memory of the worked accesses: 32 bytes that are 0, and two threads, none of them marked
abbrev pub small_memory : Monitor
small_memory = at_rest (replicate 32 0) 2

-- the same memory with rows of 16 bytes
abbrev pub wide_memory : Monitor
wide_memory = at_rest_by 1 (replicate 32 0) 2

-- the row on which a thread is marked after accesses to it
abbrev pub mark_after_these : List Entry → ℕ → Option ℕ
mark_after_these accesses thread = marked_row (monitor_after small_memory accesses) thread

-- the bytes of memory after accesses to it
abbrev pub bytes_after_these : List Entry → List ℕ
bytes_after_these accesses = (monitor_after small_memory accesses).memory

-- a halfword in the middle of a row
abbrev pub half : Place
half = record { addr = 10; size = B2 }

-- the last word of the memory, the word half of which lies behind it, and the byte behind it
abbrev pub end_word : Place
end_word = record { addr = 28; size = B4 }

abbrev pub split_word : Place
split_word = record { addr = 30; size = B4 }

abbrev pub byte_behind : Place
byte_behind = record { addr = 32; size = B1 }

-- a word 4096 rows behind the row of the first
abbrev pub far_word : Place
far_word = record { addr = 32776; size = B4 }
