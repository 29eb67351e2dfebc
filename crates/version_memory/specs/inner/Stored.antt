-- Only proofs and inner contracts need these words.
-- What stamped loads, stores and store-exclusives tell: that they are done, where they stand, and with which stamp. This project's own.
use Rattle.std.specs.Prelude.{◌≡◌, ◌/◌, ℕ, true, false, [], ◌∷◌}
use Rattle.llsc_base.specs.Memory.{row_of}
use Rattle.llsc_base.specs.declared.access.Place.{Place}
use Rattle.row_bytes.specs.Cell.{value_in_cell}
use Rattle.history.specs.Operation.{entries_of_operation, fail, load_watched, store}
use Rattle.history.specs.declared.entry.Entry.TheVariants.{Read, Write, Fail, Begin}
use Rattle.history.specs.declared.entry.Cause.{Cause}
use Rattle.history.specs.declared.entry.Cause.TheVariants.{Lost}
use Rattle.shared_memory.specs.Origin.{Origin}
use Rattle.version_rule.specs.declared.hands.Doing.TheVariants.{Rest}
use Rattle.version_rule.specs.declared.hands.Reserve.TheVariants.{Nothing, Row}
use Rattle.version_rule.specs.Exact.{IsOvertaken, IsUndisturbed}
use Rattle.version_rule.specs.Hands.{hand, reserve_after}
use Rattle.shared_memory.specs.Told.{Goes}
use Rattle.version_rule.specs.Told.{Mine}
use Rattle.version_memory.specs.Stands.{HasRoom, IsStamped, Stands}

-- a seat has loaded a cell, as a load of the place, with this stamp
pub record HasLoaded (origin : Origin) (place : Place) (cell stamp : ℕ) (old new : Mine) : Type 0 where
  pub goes : Goes origin old (Read old.0.lead place (value_in_cell cell place) false ∷ []) (hand Rest old.0.doing.reserve) new
  pub stamped : IsStamped origin.size place stamp (Read old.0.lead place (value_in_cell cell place) false) old.0.seen new.0.seen

-- a seat has loaded a cell exclusively, and has a reservation from now on, at a version that is twice its stamp
pub record HasLoadedEx (origin : Origin) (place : Place) (cell version : ℕ) (old new : Mine) : Type 0 where
  pub goes : Goes origin old (entries_of_operation old.0.lead (load_watched place (value_in_cell cell place))) (hand Rest (Row (row_of origin.size.granule place) version)) new
  pub stamped : IsStamped origin.size place (version / 2) (Read old.0.lead place (value_in_cell cell place) true) old.0.seen new.0.seen

-- a seat has stored a value: it has begun where the class might take a write, and its Write has this stamp
pub record HasStored (origin : Origin) (place : Place) (value stamp : ℕ) (old new : Mine) : Type 0 where
  pub goes : Goes origin old (entries_of_operation old.0.lead (store place value false)) (hand Rest (reserve_after origin.size place old.0.doing.reserve)) new
  pub room : HasRoom origin.size place (Begin old.0.lead place) old.0.seen new.0.seen
  pub stamped : IsStamped origin.size place stamp (Write old.0.lead place value false) old.0.seen new.0.seen

-- a store-exclusive has succeeded: its thread was undisturbed where it began
pub record HasStoredEx (origin : Origin) (place : Place) (value stamp : ℕ) (old new : Mine) : Type 0 where
  pub goes : Goes origin old (entries_of_operation old.0.lead (store place value true)) (hand Rest Nothing) new
  pub exact : Stands (IsUndisturbed origin.size old.0.lead place) (Begin old.0.lead place) old.0.seen new.0.seen
  pub stamped : IsStamped origin.size place stamp (Write old.0.lead place value true) old.0.seen new.0.seen

-- it has failed: its thread wasn't, and where it has lost, a write of another had begun in the class since its reservation
pub record HasFailed (origin : Origin) (place : Place) (value : ℕ) (old new : Mine) : Type 0 where
  pub cause : Cause
  pub goes : Goes origin old (entries_of_operation old.0.lead (fail place value cause)) (hand Rest Nothing) new
  pub exact : Stands (λ past. IsUndisturbed origin.size old.0.lead place past → ⊥) (Fail old.0.lead place value cause) old.0.seen new.0.seen
  pub steady : cause ≡ Lost → Stands (IsOvertaken origin.size old.0.lead place) (Fail old.0.lead place value cause) old.0.seen new.0.seen
