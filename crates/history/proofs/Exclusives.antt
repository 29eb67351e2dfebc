-- Where a store-exclusive stores.
use Rattle.std.proofs.Common.{◌≡◌, ℕ, ◌==◌, Bool, true, false, Option, Some, None, refl, ap, eq-eqb, eqb-true}
use Rattle.history.specs.Monitor.{is_on}

-- a mark on the row
pub on_marked : (row : ℕ) (mark : Option ℕ) → mark ≡ Some row → is_on row mark ≡ true
on_marked row None e = cc
on_marked row (Some marked) e = let same : marked ≡ row = cc in eq-eqb marked row same

decided : (b : Bool) → (b ≡ true → ⊥) → b ≡ false
decided true never = absurd (never refl)
decided false never = refl

-- no mark on the row
pub off_unmarked : (row : ℕ) (mark : Option ℕ) → (mark ≡ Some row → ⊥) → is_on row mark ≡ false
off_unmarked row None none = refl
off_unmarked row (Some marked) none = decided (marked == row) (λ same. none (ap Some (eqb-true marked row same)))
