-- What is told of a seat that has waited before.
use Rattle.std.proofs.Common.{ℕ, ◌/◌, true, false, [], ◌∷◌, subst}
use Rattle.llsc_base.specs.Memory.{row_of}
use Rattle.llsc_base.specs.declared.access.Place.{Place}
use Rattle.row_bytes.specs.Cell.{value_in_cell}
use Rattle.history.specs.declared.entry.Entry.TheVariants.{Read, Write, Watch, Begin, End}
use Rattle.shared_memory.specs.Origin.{Origin}
use Rattle.shared_memory.specs.Seen.{IsFront}
use Rattle.shared_memory.proofs.Fronts.{front-all}
use Rattle.version_rule.specs.declared.hands.Doing.TheVariants.{Rest}
use Rattle.version_rule.specs.declared.hands.Reserve.TheVariants.{Row}
use Rattle.version_rule.specs.declared.hands.Hand.{Hand}
use Rattle.version_rule.specs.Hands.{hand, reserve_after}
use Rattle.shared_memory.specs.Told.{Goes}
use Rattle.version_rule.specs.Told.{Mine}
use Rattle.shared_memory.proofs.Waits.{Waits, waits-goes_by}
use Rattle.version_memory.specs.Stands.{IsStamped, HasRoom}
use Rattle.version_memory.specs.inner.Stored.{HasLoaded, HasLoadedEx, HasStored}
use Rattle.version_memory.proofs.After.{stands-within}

module _ (origin : Origin) (a b c : Mine) (w : Waits a b) where
  front-waits : IsFront a.0.seen b.0.seen
  front-waits = (w.added, w.longer)

  pub none-waits : Goes origin b [] b.0.doing c → Goes origin a [] a.0.doing c
  none-waits goes = waits-goes_by origin a b c (λ (t : ℕ). []) (λ (h : Hand). h) w goes

  pub stored-waits : (p : Place) (value stamp : ℕ) → HasStored origin p value stamp b c → HasStored origin p value stamp a c
  stored-waits p value stamp s = record {
    goes = waits-goes_by origin a b c (λ (t : ℕ). Begin t p ∷ Write t p value false ∷ End t p ∷ []) (λ (h : Hand). hand Rest (reserve_after origin.size p h.reserve)) w s.goes;
    room = stands-within _ (Begin a.0.lead p) a.0.seen b.0.seen c.0.seen c.0.seen front-waits (front-all c.0.seen)
        (subst (λ (t : ℕ). HasRoom origin.size p (Begin t p) b.0.seen c.0.seen) w.lead s.room);
    stamped = stands-within _ (Write a.0.lead p value false) a.0.seen b.0.seen c.0.seen c.0.seen front-waits (front-all c.0.seen)
        (subst (λ (t : ℕ). IsStamped origin.size p stamp (Write t p value false) b.0.seen c.0.seen) w.lead s.stamped);
  }

  pub loaded-waits : (p : Place) (cell stamp : ℕ) → HasLoaded origin p cell stamp b c → HasLoaded origin p cell stamp a c
  loaded-waits p cell stamp s = record {
    goes = waits-goes_by origin a b c (λ (t : ℕ). Read t p (value_in_cell cell p) false ∷ []) (λ (h : Hand). hand Rest h.reserve) w s.goes;
    stamped = stands-within _ (Read a.0.lead p (value_in_cell cell p) false) a.0.seen b.0.seen c.0.seen c.0.seen front-waits (front-all c.0.seen)
        (subst (λ (t : ℕ). IsStamped origin.size p stamp (Read t p (value_in_cell cell p) false) b.0.seen c.0.seen) w.lead s.stamped);
  }

  pub linked-waits : (p : Place) (cell version : ℕ) → HasLoadedEx origin p cell version b c → HasLoadedEx origin p cell version a c
  linked-waits p cell version s = record {
    goes = waits-goes_by origin a b c (λ (t : ℕ). Watch t p ∷ Read t p (value_in_cell cell p) true ∷ []) (λ (h : Hand). hand Rest (Row (row_of origin.size.granule p) version)) w s.goes;
    stamped = stands-within _ (Read a.0.lead p (value_in_cell cell p) true) a.0.seen b.0.seen c.0.seen c.0.seen front-waits (front-all c.0.seen)
        (subst (λ (t : ℕ). IsStamped origin.size p (version / 2) (Read t p (value_in_cell cell p) true) b.0.seen c.0.seen) w.lead s.stamped);
  }
