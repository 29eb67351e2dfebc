-- When a store-exclusive has failed, and when a store that is tried once is not done. This project's own, as DDI 0406C A3.4
-- leaves the first to an implementation.
use Rattle.std.specs.Prelude.{◌≡◌, ◌≢◌, ◌⊎◌, ◌%◌, ℕ, List}
use Rattle.llsc_base.specs.Memory.{row_of}
use Rattle.llsc_base.specs.Sizes.{Numbers}
use Rattle.llsc_base.specs.declared.access.Place.{Place}
use Rattle.history.specs.Class.{edges_of}
use Rattle.history.specs.declared.entry.Cause.{Cause}
use Rattle.history.specs.declared.entry.Cause.TheVariants.{Lost}
use Rattle.history.specs.declared.entry.Entry.{Entry}
use Rattle.history.specs.declared.entry.Entry.TheVariants.{Fail}
use Rattle.shared_memory.specs.Seen.{IsFront}
use Rattle.version_rule.specs.Exact.{IsOvertaken, IsUndisturbed}
use Rattle.version_memory.specs.Stands.{Stands}

-- a store-exclusive of a thread has failed: the thread wasn't undisturbed then, and where it has lost, a write of another had
-- begun in the class since its reservation
pub record HasFailedAt (size : Numbers) (thread : ℕ) (place : Place) (value : ℕ) (old new : List Entry) : Type 0 where
  pub cause : Cause
  pub exact : Stands (λ past. IsUndisturbed size thread place past → ⊥) (Fail thread place value cause) old new
  pub steady : cause ≡ Lost → Stands (IsOvertaken size thread place) (Fail thread place value cause) old new

-- since a history a write in the class of a place was in flight: at some moment the class had had an odd number of Begins and
-- Ends, or more of them have come since
pub record IsContended (size : Numbers) (place : Place) (old new : List Entry) : Type 0 where
  pub past : List Entry
  pub since : IsFront old past
  pub until : IsFront past new
  pub met : (edges_of size (row_of size.granule place) past % 2 ≡ 1) ⊎ (edges_of size (row_of size.granule place) new ≢ edges_of size (row_of size.granule place) past)
