-- Only proofs and inner contracts need these words.
-- A memory of two threads, what each of them does in its history, and what that leaves. This project's own.
use Rattle.std.specs.Prelude.{◌≡◌, ◌+◌, ◌%◌, ◌^◌, ◌<◌, ℕ, true, List, [], ◌∷◌, ◌++◌, replicate}
use Rattle.llsc_base.specs.declared.access.Place.{Place}
use Rattle.row_bytes.specs.Cell.{cell_at}
use Rattle.history.specs.Legal.{IsComplete}
use Rattle.history.specs.Monitor.{at_rest_by, monitor_after}
use Rattle.history.specs.Parts.{accesses_of, entries_of}
use Rattle.history.specs.declared.entry.Cause.{Cause}
use Rattle.history.specs.declared.entry.Entry.{Entry}
use Rattle.history.specs.declared.entry.Entry.TheVariants.{Read, Write, Fail}
use Rattle.shared_memory.specs.Origin.{Origin, IsLegalFrom}

-- a machine of 65,536 bytes, which all are 0 at first, and two threads, which both begin by themselves
pub record IsOfTwo (origin : Origin) : Type 0 where
  pub mem : origin.size.mem ≡ 65536
  pub threads : origin.size.threads ≡ 2
  pub first : origin.first ≡ 2
  pub zeros : origin.bytes ≡ replicate 65536 0

-- one more than a word of eight bytes, as the word takes it
abbrev pub next_value : ℕ → ℕ
next_value value = (value + 1) % 2 ^ 64

-- Accesses are those of a thread that has added 1 to a word so many times: again and again it loads the word exclusively, and a
-- store-exclusive of one more than it got there succeeds, which is an addition, or fails, which is none.
pub data HasAdded (thread : ℕ) (word : Place) : (times : ℕ) → List Entry → Type 0 where
  none : HasAdded thread word 0 []
  stored : (times value : ℕ) (before : List Entry) → HasAdded thread word times before
      → HasAdded thread word (times + 1) (before ++ Read thread word value true ∷ Write thread word (next_value value) true ∷ [])
  failed : (times value : ℕ) (before : List Entry) (cause : Cause) → HasAdded thread word times before
      → HasAdded thread word times (before ++ Read thread word value true ∷ Fail thread word (next_value value) cause ∷ [])

-- the accesses of a thread in a history
abbrev pub accesses_by : ℕ → List Entry → List Entry
accesses_by thread history = accesses_of (entries_of thread history)

-- in a history both of two threads have added 1 to a word so many times, and made no other access
abbrev pub HaveBothAdded : Place → ℕ → List Entry → Type 0
HaveBothAdded word times history = (thread : ℕ) → thread < 2 → HasAdded thread word times (accesses_by thread history)

-- a history that is legal and complete leaves this value in a cell
pub record Leaves (origin : Origin) (history : List Entry) (cell value : ℕ) : Type 0 where
  pub legal : IsLegalFrom origin history
  pub complete : IsComplete history
  pub left : value ≡ cell_at (monitor_after (at_rest_by origin.size.granule origin.bytes origin.size.threads) (accesses_of history)).memory cell
