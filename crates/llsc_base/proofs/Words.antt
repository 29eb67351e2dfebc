-- Registers hold 32 bits.
use Rattle.std.proofs.Common.{◌≡◌, ◌≤◌, length, refl, ap, ◌<◌, ◌^◌, slice_set, ℕ, zero, suc, List, [], ◌∷◌, arith}
use Rattle.llsc_base.specs.inner.Words.{AreWords}

pub words_none : AreWords []
words_none i = omega arith

pub words_more : (x : ℕ) (xs : List ℕ) → x < 2 ^ 32 → AreWords xs → AreWords (x ∷ xs)
words_more x xs small rest zero = small
words_more x xs small rest (suc i) = rest i

-- one of them set to a value of 32 bits
pub words_set : (xs : List ℕ) (i v : ℕ) → AreWords xs → v < 2 ^ 32 → AreWords (slice_set xs i v)
words_set [] i v words small j = words j
words_set (x ∷ xs) zero v words small zero = small
words_set (x ∷ xs) zero v words small (suc j) = words (suc j)
words_set (x ∷ xs) (suc i) v words small zero = words zero
words_set (x ∷ xs) (suc i) v words small (suc j) = words_set xs i v (λ k. words (suc k)) small j

-- a place past the end is none of them
pub set_past : (xs : List ℕ) (i v : ℕ) → length xs ≤ i → slice_set xs i v ≡ xs
set_past [] i v past = refl
set_past (x ∷ xs) zero v past = absurd (omega arith)
set_past (x ∷ xs) (suc i) v past = ap (λ (ys : List ℕ). x ∷ ys) (set_past xs i v (omega arith))
