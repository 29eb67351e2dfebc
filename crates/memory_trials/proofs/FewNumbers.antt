-- The numbers of two passes.
use Rattle.std.proofs.Common.{◌≡◌, ◌≢◌, ◌⊎◌, ◌<◌, ◌||◌, ℕ, Bool, true, false, refl, ap, ◌∙◌, inl, inr, arith}
use Rattle.std.proofs.lemmas.Bool.{cases_eq}
use Rattle.shared_memory.specs.Seen.{IsOneOf, IsSingle, joint}

-- the numbers 0 and 1 together are all below 2
pub all-of-two : (f g h : ℕ → Bool) → h ≡ joint f g → IsSingle 0 f → IsSingle 1 g → (t : ℕ) → t < 2 → IsOneOf t h
all-of-two f g h is zero one t below = ap (λ (k : ℕ → Bool). k t) is ∙ either t below (cases_eq t 0)
  where
    or_true : (b : Bool) → (b || true) ≡ true
    or_true true = refl
    or_true false = refl

    either : (t : ℕ) → t < 2 → (t ≡ 0) ⊎ (t ≢ 0) → (f t || g t) ≡ true
    either t below (inl first) = ap (λ (b : Bool). b || g t) (ap f first ∙ zero.has)
    either t below (inr other) = let last : t ≡ 1 = omega arith in ap (λ (b : Bool). f t || b) (ap g last ∙ one.has) ∙ or_true (f t)
