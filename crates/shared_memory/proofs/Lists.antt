-- Lists read by index.
use Rattle.std.proofs.Common.{◌≡◌, ℕ, zero, suc, ◌<◌, ◌⊎◌, List, [], ◌∷◌, ◌++◌, length, get_or, ap, sym, refl, inl, inr, ⊎_elim, arith}
use mathlib.Core.Option.{some, some-injective, some-ne-none}
use lib.ListN.{get_elem?}

module _ {A : Type 0} where
  -- what stands at an index is read there
  pub get_or-at : (l : List A) (i : ℕ) (a d : A) → get_elem? l i ≡ some a → get_or l i d ≡ a
  get_or-at [] i a d e = absurd (some-ne-none a (sym e))
  get_or-at (x ∷ xs) zero a d e = some-injective x a e
  get_or-at (x ∷ xs) (suc i) a d e = get_or-at xs i a d e

  -- and the index is within
  pub at-below : (l : List A) (i : ℕ) (a : A) → get_elem? l i ≡ some a → i < length l
  at-below [] i a e = absurd (some-ne-none a (sym e))
  at-below (x ∷ xs) zero a e = omega arith
  at-below (x ∷ xs) (suc i) a e = let h = at-below xs i a e in omega arith

  -- what stands in a list with one more stands in the list, or is the last
  pub at-end : (l : List A) (a b : A) (j : ℕ) → get_elem? (l ++ a ∷ []) j ≡ some b → (get_elem? l j ≡ some b) ⊎ ((j ≡ length l) × (a ≡ b))
  at-end [] a b zero e = inr (refl, some-injective a b e)
  at-end [] a b (suc j) e = absurd (some-ne-none b (sym e))
  at-end (x ∷ xs) a b zero e = inl e
  at-end (x ∷ xs) a b (suc j) e = ⊎_elim (λ h. inl h) (λ h. inr (ap suc h.0, h.1)) (at-end xs a b j e)
