-- What a record may hold: limits of this project's own.
use Rattle.std.specs.Prelude.{◌≡◌, ℕ, ◌^◌, ◌<◌, ◌≤◌, IsTrue, All, length}
use Rattle.llsc_base.specs.Limits.{most_budget}
use Rattle.llsc_base.specs.Memory.{is_aligned, size_bytes}
use Rattle.history.specs.Accesses.{nowhere}
use Rattle.history.specs.declared.entry.Access.{Access}
use Rattle.history.specs.declared.entry.Deed.TheVariants as deed
use Rattle.run_record.specs.declared.records.RunRecord.{RunRecord}

-- the most threads
abbrev pub most_threads : ℕ
most_threads = 16

-- the greatest granule number: a row, on which a monitor marks a thread, has 8 * 2 ^ granule bytes
abbrev pub most_granule : ℕ
most_granule = 8

-- the most accesses
abbrev pub most_accesses : ℕ
most_accesses = 1000000

-- an access as a line says it: its address has 32 bits and is a multiple of its size, its value fits its size, and
-- a Clear has the place of one byte at address 0 and the value 0
pub record IsFormed (access : Access) : Type 0 where
  pub addr : access.place.addr < 2 ^ 32
  pub aligned : IsTrue (is_aligned access.place)
  pub fits : access.value < 256 ^ size_bytes access.place.size
  pub clear : access.deed ≡ deed.Clear → (access.place ≡ nowhere) × (access.value ≡ 0)

-- an access of one of so many threads
pub record IsAccess (threads : ℕ) (access : Access) : Type 0 where
  pub thread : access.thread < threads
  pub formed : IsFormed access

-- a number of threads, a granule number and a budget that a run may have
pub record IsRun (threads granule budget : ℕ) : Type 0 where
  pub thread : 1 ≤ threads
  pub few : threads ≤ most_threads
  pub rows : granule ≤ most_granule
  pub step : 1 ≤ budget
  pub bounded : budget ≤ most_budget

-- a record within the limits, each of its accesses one of its threads'
pub record IsRecord (run : RunRecord) : Type 0 where
  pub numbers : IsRun run.threads run.granule run.budget
  pub count : length run.accesses ≤ most_accesses
  pub accesses : All (IsAccess run.threads) run.accesses
