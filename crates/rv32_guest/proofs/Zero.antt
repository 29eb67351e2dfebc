-- The register x0.
use Rattle.std.proofs.Common.{◌≡◌, ℕ, zero, suc, ◌==◌, if◌then◌else◌, List, [], ◌∷◌, slice_index, slice_set, arith, refl, sym, ap}
use Rattle.std.proofs.lemmas.Bool.{ne_eqb}

-- it reads 0 where it is 0
pub zero_reads : (regs : List ℕ) (r : ℕ) → slice_index regs 0 ≡ 0 → slice_index regs r ≡ (if r == 0 then 0 else slice_index regs r)
zero_reads regs zero none = none
zero_reads regs (suc r) none = rw (ne_eqb (suc r) 0 (λ e. omega (arith, e))) refl

-- set to 0 behind any register, it stays, and of the others that one is set
pub zero_set : (regs : List ℕ) (r value : ℕ) → slice_index regs 0 ≡ 0
    → slice_set (slice_set regs r value) 0 0 ≡ (if r == 0 then regs else slice_set regs r value)
zero_set [] zero value none = refl
zero_set [] (suc r) value none = rw (ne_eqb (suc r) 0 (λ e. omega (arith, e))) refl
zero_set (x ∷ regs) zero value none = ap (λ first. first ∷ regs) (sym none)
zero_set (x ∷ regs) (suc r) value none = rw (ne_eqb (suc r) 0 (λ e. omega (arith, e))) (ap (λ first. first ∷ slice_set regs r value) (sym none))
