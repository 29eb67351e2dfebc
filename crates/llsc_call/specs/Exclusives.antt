-- What a history says of its store-exclusives.
use Rattle.std.specs.Prelude.{◌≡◌, ℕ, true, List, ◌∷◌, ◌++◌}
use Rattle.llsc_base.specs.Memory.{row_of}
use Rattle.llsc_base.specs.Sizes.{Numbers}
use Rattle.llsc_base.specs.declared.access.Place.{Place}
use Rattle.history.specs.Cause.{MayFail}
use Rattle.history.specs.Marked.{IsUnwrittenSince}
use Rattle.history.specs.Monitor.{at_rest_by}
use Rattle.history.specs.Parts.{accesses_of}
use Rattle.history.specs.declared.entry.Cause.{Cause}
use Rattle.history.specs.declared.entry.Entry.{Entry}
use Rattle.history.specs.declared.entry.Entry.TheVariants.{Write, Fail}

-- In a history of a machine of this size, whose memory begins as these bytes: each store-exclusive that succeeded was
-- undisturbed, which means that the last load-exclusive of its thread read the same row, and that nobody has written in that row
-- since, whatever the value; and each that failed has its cause in what stands before it.
pub record AreStoresExact (size : Numbers) (bytes : List ℕ) (history : List Entry) : Type 0 where
  pub undisturbed : (past rest : List Entry) (thread : ℕ) (place : Place) (value : ℕ) → history ≡ past ++ (Write thread place value true ∷ rest)
      → IsUnwrittenSince (at_rest_by size.granule bytes size.threads) (accesses_of past) thread (row_of size.granule place)
  pub caused : (past rest : List Entry) (thread : ℕ) (place : Place) (value : ℕ) (cause : Cause) → history ≡ past ++ (Fail thread place value cause ∷ rest)
      → MayFail size past thread place cause
