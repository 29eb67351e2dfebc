-- Instructions of a program that were met before, from an address on.
use Rattle.std.specs.Prelude.{◌≡◌, ◌+◌, ℕ, Bool, true, false, List, [], ◌∷◌, Result, Ok}
use Rattle.llsc_base.specs.Images.{Program}
use Rattle.llsc_base.specs.Words.{low32}
use Rattle.llsc_base.specs.declared.outside.Stop.{Stop}

-- a program whose instructions are kept where they were met
pub record KnownCode : Type 0 where
  pub program : Program

-- there is a last one, and it wasn't met
abbrev pub EndsUnmet : {R : Type 0} → (R → Bool) → List R → Type 0
EndsUnmet is_met [] = ⊥
EndsUnmet is_met (kept ∷ []) = is_met kept ≡ false
EndsUnmet is_met (kept ∷ next ∷ rest) = EndsUnmet is_met (next ∷ rest)

module _ {I R : Type 0} (is_met : R → Bool) (found : Program → ℕ → Result I Stop) (instr_of : R → I) (is_right : R → Type 0) where
  -- what is kept for an address is the instruction there, if that was met
  abbrev pub IsRightAt : Program → ℕ → R → Type 0
  IsRightAt program addr kept = is_met kept ≡ true → (found program addr ≡ Ok (instr_of kept)) × is_right kept

  -- so it is for consecutive addresses
  abbrev pub AreRightFrom : Program → ℕ → List R → Type 0
  AreRightFrom program addr [] = Unit {0}
  AreRightFrom program addr (kept ∷ rest) = IsRightAt program addr kept × AreRightFrom program (low32 (addr + 4)) rest
