-- A store-exclusive succeeds exactly where its thread was undisturbed before the entry that decided it.
use Rattle.std.proofs.Common.{◌≡◌, ℕ, ◌/◌, true, [], ◌∷◌, subst}
use Rattle.llsc_base.specs.declared.access.Place.{Place}
use Rattle.history.specs.declared.entry.Cause.{Cause}
use Rattle.history.specs.declared.entry.Cause.TheVariants.{Absent, Lost}
use Rattle.history.specs.declared.entry.Entry.TheVariants.{Write, Fail, Begin, End}
use Rattle.shared_memory.specs.Origin.{Origin}
use Rattle.shared_memory.proofs.Fronts.{front-all}
use Rattle.version_rule.specs.declared.hands.Doing.TheVariants.{Rest, Claimed}
use Rattle.version_rule.specs.declared.hands.Reserve.TheVariants.{Nothing}
use Rattle.version_rule.specs.declared.hands.Hand.{Hand}
use Rattle.version_rule.specs.Exact.{IsUndisturbed}
use Rattle.version_rule.specs.Hands.{hand}
use Rattle.shared_memory.specs.Told.{Goes}
use Rattle.shared_memory.specs.inner.Told.{ask}
use Rattle.version_rule.specs.Told.{Decides, IsDisturbed, IsUndisturbedAt, Mine}
use Rattle.shared_memory.proofs.Sequences.{goes-then_by}
use Rattle.version_memory.specs.Exact.{HasFailedAt}
use Rattle.version_memory.specs.Stands.{IsStamped}
use Rattle.version_memory.specs.inner.Stored.{HasFailed, HasStoredEx}
use Rattle.version_memory.proofs.After.{front-goes, stands-decides, stands-within}

module _ (origin : Origin) (p : Place) (value : ℕ) (a b : Mine) where
  failed-by : (cause : Cause) → (cause ≡ Lost → ⊥) → Decides origin a (Fail a.0.lead p value cause ∷ []) (IsDisturbed (ask origin p value) a.0.lead) (hand Rest Nothing) b → HasFailed origin p value a b
  failed-by cause not d = record {
    cause = cause;
    goes = d.goes;
    exact = stands-decides origin a b (Fail a.0.lead p value cause) (IsDisturbed (ask origin p value) a.0.lead) _ _ d (λ l h. h);
    steady = λ is. absurd (not is);
  }

  pub failed-absent : Decides origin a (Fail a.0.lead p value Absent ∷ []) (IsDisturbed (ask origin p value) a.0.lead) (hand Rest Nothing) b → HasFailed origin p value a b
  failed-absent d = failed-by Absent (λ h. let f : ⊥ = cc in f) d

  -- the same, of the thread by its number
  pub failed-at : (t : ℕ) → a.0.lead ≡ t → HasFailed origin p value a b → HasFailedAt origin.size t p value a.0.seen b.0.seen
  failed-at t same f = subst (λ (u : ℕ). HasFailedAt origin.size u p value a.0.seen b.0.seen) same (record { cause = f.cause; exact = f.exact; steady = f.steady })

  module _ (c : Mine) where
    pub stored-ex : (version : ℕ) → Decides origin a (Begin a.0.lead p ∷ []) (IsUndisturbedAt (ask origin p value) a.0.lead version) (hand (Claimed p version true) Nothing) b
        → Goes origin b (Write b.0.lead p value true ∷ End b.0.lead p ∷ []) (hand Rest b.0.doing.reserve) c → IsStamped origin.size p (version / 2) (Write b.0.lead p value true) b.0.seen c.0.seen
        → HasStoredEx origin p value (version / 2) a c
    stored-ex version one two stamped = record {
      goes = goes-then_by origin a b c (Begin a.0.lead p ∷ []) (hand (Claimed p version true) Nothing) (λ (t : ℕ). Write t p value true ∷ End t p ∷ []) (λ (h : Hand). hand Rest h.reserve) one.goes two;
      exact = stands-within _ (Begin a.0.lead p) a.0.seen a.0.seen b.0.seen c.0.seen (front-all a.0.seen) (front-goes origin b c _ _ two)
          (stands-decides origin a b (Begin a.0.lead p) (IsUndisturbedAt (ask origin p value) a.0.lead version) (IsUndisturbed origin.size a.0.lead p) _ one (λ l h. h.undisturbed));
      stamped = stands-within _ (Write a.0.lead p value true) a.0.seen b.0.seen c.0.seen c.0.seen (front-goes origin a b _ _ one.goes) (front-all c.0.seen)
          (subst (λ (t : ℕ). IsStamped origin.size p (version / 2) (Write t p value true) b.0.seen c.0.seen) one.goes.lead stamped);
    }
