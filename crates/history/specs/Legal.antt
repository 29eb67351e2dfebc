-- Which histories of shared memory are legal, and which are complete: Arm's accesses with this project's marks.
use Rattle.std.specs.Prelude.{ℕ, List}
use Rattle.llsc_base.specs.Sizes.{Numbers}
use Rattle.history.specs.Parts.{accesses_of, entries_of}
use Rattle.history.specs.Monitor.{at_rest_by}
use Rattle.history.specs.ArmLegal.{IsArmLegal}
use Rattle.history.specs.Operation.{AreFinished, AreOperations}
use Rattle.history.specs.Cause.{HasCause}
use Rattle.history.specs.Each.{IsOfEach}
use Rattle.history.specs.declared.entry.Entry.{Entry}

-- a history of a machine of this size, whose memory begins as these bytes: Arm allows its accesses, each thread's entries
-- are operations, and each store-exclusive that fails and each load-exclusive without a reservation has its cause
pub record IsLegal (size : Numbers) (bytes : List ℕ) (history : List Entry) : Type 0 where
  pub accesses : IsArmLegal (at_rest_by size.granule bytes size.threads) (accesses_of history)
  pub operations : (thread : ℕ) → AreOperations thread (entries_of thread history)
  pub causes : IsOfEach (HasCause size) history

-- no operation is unfinished
abbrev pub IsComplete : List Entry → Type 0
IsComplete history = (thread : ℕ) → AreFinished thread (entries_of thread history)
