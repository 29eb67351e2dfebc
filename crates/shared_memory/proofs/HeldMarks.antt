-- Marks in an array of sixteen.
use Rattle.std.proofs.Common.{◌≡◌, ◌+◌, ◌<◌, ◌≤◌, ◌||◌, ℕ, zero, suc, Bool, true, false, List, [], ◌∷◌, length, replicate, set, arith, inl, inr, ap, refl, sym, ◌∙◌, get_or-set_same, get_or-set_other}
use Rattle.std.proofs.lemmas.Bool.{cases_eq, cases_lt}
use Rattle.std.proofs.lemmas.List.{length-replicate}
use Rattle.shared_memory.specs.Passes.{marked, one_mark}
use Rattle.shared_memory.specs.Seen.{joint}
use Rattle.shared_memory.proofs.Marks.{one-else, one-here}

none-marked : (n k : ℕ) → marked (replicate n false) k ≡ false
none-marked zero k = refl
none-marked (suc n) zero = refl
none-marked (suc n) (suc k) = none-marked n k

pub marked-past : (xs : List Bool) (k : ℕ) → length xs ≤ k → marked xs k ≡ false
marked-past [] k h = refl
marked-past (x ∷ xs) zero h = absurd (omega arith)
marked-past (x ∷ xs) (suc k) h = marked-past xs k (omega arith)

pub only-one : (n t : ℕ) → t < n → (u : ℕ) → marked (set (replicate n false) t true) u ≡ marked (one_mark t) u
only-one n t h u = elim (cases_eq u t) [
  | inl same ↦ ap (marked (set (replicate n false) t true)) same ∙ get_or-set_same (replicate n false) t true false (let long = length-replicate n false in omega arith) ∙ sym (ap (marked (one_mark t)) same ∙ one-here t)
  | inr other ↦ get_or-set_other (replicate n false) t u true false other ∙ none-marked n u ∙ sym (one-else t u other)
]

module _ (one other has : List Bool) (t : ℕ) where
  -- one more mark is merged
  pub merge-more : t < length has → ((u : ℕ) → u < t → marked has u ≡ joint (marked one) (marked other) u) → ((u : ℕ) → t ≤ u → marked has u ≡ marked one u) → (b : Bool) → b ≡ (marked has t || marked other t)
      → (u : ℕ) → u < t + 1 → marked (set has t b) u ≡ joint (marked one) (marked other) u
  merge-more below done rest b is u h = elim (cases_eq u t) [
    | inl same ↦ ap (marked (set has t b)) same ∙ get_or-set_same has t b false below ∙ is ∙ ap (λ (x : Bool). x || marked other t) (rest t (omega arith)) ∙ ap (joint (marked one) (marked other)) (sym same)
    | inr elsewhere ↦ get_or-set_other has t u b false elsewhere ∙ done u (omega arith)
  ]

  pub merge-rest : ((u : ℕ) → t ≤ u → marked has u ≡ marked one u) → (b : Bool) → (u : ℕ) → t + 1 ≤ u → marked (set has t b) u ≡ marked one u
  merge-rest rest b u h = get_or-set_other has t u b false (λ same. absurd (omega arith)) ∙ rest u (omega arith)

pub merged-all : (one other has : List Bool) (t : ℕ) → length one ≡ 16 → length other ≡ 16 → 16 ≤ t → ((u : ℕ) → u < t → marked has u ≡ joint (marked one) (marked other) u)
    → ((u : ℕ) → t ≤ u → marked has u ≡ marked one u) → (u : ℕ) → marked has u ≡ joint (marked one) (marked other) u
merged-all one other has t long_one long_other end done rest u = elim (cases_lt u t) [
  | inl below ↦ done u below
  | inr above ↦
      let past_one : length one ≤ u = omega arith in
      let past_other : length other ≤ u = omega arith in
      rest u above ∙ sym (ap (λ (b : Bool). marked one u || b) (marked-past other u past_other) ∙ ap (λ (b : Bool). b || false) (marked-past one u past_one) ∙ sym (marked-past one u past_one))
]
