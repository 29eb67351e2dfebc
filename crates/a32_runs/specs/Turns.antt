-- Small programs of the worked traces, the machines that run them, and what they do.
use Rattle.std.specs.Prelude.{ℕ, true, false, List, [], ◌∷◌}
use Rattle.llsc_base.specs.Images.{Program}
use Rattle.llsc_base.specs.Sizes.{Numbers, numbers}
use Rattle.llsc_base.specs.declared.access.Size.{Size}
use Rattle.history.specs.declared.entry.Access.{Access}
use Rattle.history.specs.declared.entry.Deed.{Deed}
use Rattle.history.specs.declared.entry.Deed.TheVariants as deed
use Rattle.llsc_base.specs.declared.outside.Stop.{Stop}
use Rattle.guest_thread.specs.declared.ends.GuestEnd.{GuestEnd}
use Rattle.run_record.specs.declared.records.RunRecord.{RunRecord}
use Rattle.guest_machine.specs.Worked.{first_word}

-- a program that is these bytes, so many: all of them may be run, and none written
abbrev pub small_program : ℕ → List ℕ → Program
small_program count bytes = record {
  bytes = bytes;
  spans = record { start = 0; end = count; run = true; write = false } ∷ [];
  entry = 0;
}

-- mov r7, #1 and svc #0: each thread leaves at once, with its number as its code
abbrev pub leaving : Program
leaving = small_program 8 (0x01 ∷ 0x70 ∷ 0xA0 ∷ 0xE3 ∷ 0x00 ∷ 0x00 ∷ 0x00 ∷ 0xEF ∷ [])

-- ldr r2, [r4] before these: each thread loads the word at address 0 before it leaves
abbrev pub loading : Program
loading = small_program 12 (0x00 ∷ 0x20 ∷ 0x94 ∷ 0xE5 ∷ 0x01 ∷ 0x70 ∷ 0xA0 ∷ 0xE3 ∷ 0x00 ∷ 0x00 ∷ 0x00 ∷ 0xEF ∷ [])

-- ldr r2, [r4] and a branch back to it: a thread loads that word until its steps are spent
abbrev pub looping : Program
looping = small_program 8 (0x00 ∷ 0x20 ∷ 0x94 ∷ 0xE5 ∷ 0xFD ∷ 0xFF ∷ 0xFF ∷ 0xEA ∷ [])

-- a machine of so many threads, whose rows have eight bytes
abbrev pub small_machine : ℕ → Numbers
small_machine threads = numbers 65536 threads 1 1

-- a thread's load of this value from there
abbrev pub load_by : ℕ → ℕ → Access
load_by t value = record { thread = t; deed = deed.Load; place = first_word; value = value }

-- an access of thread 0 to so many bytes from an address up
abbrev pub access_at : Deed → (addr : ℕ) → Size → (value : ℕ) → Access
access_at deed addr size value = record { thread = 0; deed = deed; place = record { addr = addr; size = size }; value = value }

-- the end of a thread that wrote nothing: its number, its stop, its steps and its loads
abbrev pub silent_end : ℕ → Stop → ℕ → ℕ → GuestEnd
silent_end t stop steps reads = record { thread = t; stop = stop; steps = steps; reads = reads; writes = 0; fails = 0; out = [] }

-- a record of rows of eight bytes, with a budget of ten steps
abbrev pub small_record : ℕ → List Access → RunRecord
small_record threads accesses = record { threads = threads; granule = 0; budget = 10; accesses = accesses }
