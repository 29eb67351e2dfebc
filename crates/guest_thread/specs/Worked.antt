-- A small machine, ends and accesses of the worked cases.
use Rattle.std.specs.Prelude.{ℕ, false, List, [], ◌∷◌}
use Rattle.llsc_base.specs.Sizes.{Numbers}
use Rattle.llsc_base.specs.declared.access.Place.{Place}
use Rattle.llsc_base.specs.declared.access.Size.TheVariants.{B4}
use Rattle.history.specs.declared.entry.Access.{Access}
use Rattle.history.specs.declared.entry.Deed.{Deed}
use Rattle.history.specs.declared.entry.Entry.{Entry}
use Rattle.history.specs.declared.entry.Entry.TheVariants.{Write, Begin, End}
use Rattle.llsc_base.specs.declared.outside.Stop.{Stop}
use Rattle.guest_thread.specs.declared.ends.GuestEnd.{GuestEnd}

-- a machine of so many threads, with so many classes and writes of a class
abbrev pub machine_of : (threads classes limit : ℕ) → Numbers
machine_of threads classes limit = record { mem = 65536; threads = threads; classes = classes; limit = limit; granule = 0 }

-- the word that is accessed, and one in the next row
abbrev pub word : Place
word = record { addr = 8; size = B4 }

abbrev pub next_row : Place
next_row = record { addr = 16; size = B4 }

-- an end of a thread that wrote nothing: its stop and steps, and its loads, stores and failed store-exclusives
abbrev pub end_of : (thread : ℕ) → Stop → (steps reads writes fails : ℕ) → GuestEnd
end_of thread stop steps reads writes fails =
    record { thread = thread; stop = stop; steps = steps; reads = reads; writes = writes; fails = fails; out = [] }

-- a store of a thread to a place, with its marks
abbrev pub store_of : (thread : ℕ) → Place → List Entry
store_of thread place = Begin thread place ∷ Write thread place 5 false ∷ End thread place ∷ []

-- an access of the word
abbrev pub access : (thread : ℕ) → Deed → (value : ℕ) → Access
access thread deed value = record { thread = thread; deed = deed; place = word; value = value }
