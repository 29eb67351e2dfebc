-- Sums over the numbers below one, as over the threads of a machine.
use Rattle.std.proofs.Common.{◌≡◌, ◌≢◌, ℕ, zero, suc, ◌+◌, ◌*◌, ◌<◌, ◌≤◌, ◌==◌, Bool, true, false, if◌then◌else◌, [], ◌∷◌, ◌++◌, refl, sym, ap, ◌∙◌, arith, eq-eqb, inl, inr, suc-mul}
use Rattle.std.specs.List.{range_with_len, sum_by}
use Rattle.std.proofs.lemmas.Bool.{cases_eq, ne_eqb}
use Rattle.std.proofs.lemmas.List.{map-id}
use Rattle.std.proofs.lemmas.List.FromFn.{map-range_with_len_more}
use Rattle.std.proofs.lemmas.List.Sums.{sum_by_push}
use Rattle.history.specs.Standing.{updated}
use Rattle.history.proofs.Marks.{updated-other, updated-same}

abbrev pub sum_below : (ℕ → ℕ) → ℕ → ℕ
sum_below f zero = 0
sum_below f (suc t) = sum_below f t + f t

pub sum_below-same : (f g : ℕ → ℕ) (n : ℕ) → ((t : ℕ) → t < n → f t ≡ g t) → sum_below f n ≡ sum_below g n
sum_below-same f g zero same = refl
sum_below-same f g (suc n) same =
    let rest = sum_below-same f g n (λ t less. same t (omega (arith, less))) in
    let last : f n ≡ g n = same n (omega arith) in
    omega (arith, rest, last)

pub sum_below-plus : (f g : ℕ → ℕ) (n : ℕ) → sum_below (λ t. f t + g t) n ≡ sum_below f n + sum_below g n
sum_below-plus f g zero = refl
sum_below-plus f g (suc n) = let rest = sum_below-plus f g n in omega (arith, rest)

pub sum_below-zero : (n : ℕ) → sum_below (λ t. 0) n ≡ 0
sum_below-zero zero = refl
sum_below-zero (suc n) = let rest = sum_below-zero n in omega (arith, rest)

-- a sum of nothing
pub sum_below-none : (f : ℕ → ℕ) (n : ℕ) → ((t : ℕ) → t < n → f t ≡ 0) → sum_below f n ≡ 0
sum_below-none f n none = sum_below-same f (λ t. 0) n none ∙ sum_below-zero n

-- a sum of one number again and again
pub sum_below-const : (c n : ℕ) → sum_below (λ t. c) n ≡ n * c
sum_below-const c zero = omega arith
sum_below-const c (suc n) = let rest = sum_below-const c n in rw (suc-mul n c) (omega (arith, rest))

-- ---- each summand against the sum

-- it is at most the sum
pub sum_below-one : (f : ℕ → ℕ) (t n : ℕ) → t < n → f t ≤ sum_below f n
sum_below-one f t zero less = absurd (omega (arith, less))
sum_below-one f t (suc n) less = elim (cases_eq t n) [
  | inl same ↦ let is : f t ≡ f n = ap f same in omega (arith, is)
  | inr other ↦ let rest = sum_below-one f t n (omega (arith, less, other)) in omega (arith, rest)
]

-- so are two of them together
pub sum_below-two : (f : ℕ → ℕ) (t u n : ℕ) → t < n → u < n → u ≢ t → f t + f u ≤ sum_below f n
sum_below-two f t u zero less low apart = absurd (omega (arith, less))
sum_below-two f t u (suc n) less low apart = elim (cases_eq t n) [
  | inl same ↦
      let is : f t ≡ f n = ap f same in
      let rest = sum_below-one f u n (omega (arith, low, same, apart)) in
      omega (arith, is, rest)
  | inr other ↦ elim (cases_eq u n) [
    | inl same ↦
        let is : f u ≡ f n = ap f same in
        let rest = sum_below-one f t n (omega (arith, less, other)) in
        omega (arith, is, rest)
    | inr more ↦
        let rest = sum_below-two f t u n (omega (arith, less, other)) (omega (arith, low, more)) apart in
        omega (arith, rest)
  ]
]

-- ---- one summand changed

-- two sums that differ in one summand
pub sum_below-changed : (f g : ℕ → ℕ) (t n : ℕ) → t < n → ((u : ℕ) → u < n → u ≢ t → g u ≡ f u)
    → sum_below g n + f t ≡ sum_below f n + g t
sum_below-changed f g t zero less same = absurd (omega (arith, less))
sum_below-changed f g t (suc n) less same = elim (cases_eq t n) [
  | inl at ↦
      let below : sum_below g n ≡ sum_below f n =
      sum_below-same g f n (λ u low. same u (omega (arith, low)) (λ e. absurd (omega (arith, e, at, low)))) in
      let new : g t ≡ g n = ap g at in
      let old : f t ≡ f n = ap f at in
      omega (arith, below, new, old)
  | inr other ↦
      let rest = sum_below-changed f g t n (omega (arith, less, other)) (λ u low apart. same u (omega (arith, low)) apart) in
      let last : g n ≡ f n = same n (omega arith) (λ e. other (sym e)) in
      omega (arith, rest, last)
]

-- the sum over values of which one is changed
pub sum_below-updated : {A : Type 0} (f : A → ℕ) (p : ℕ → A) (t : ℕ) (new : A) (n : ℕ) → t < n
    → sum_below (λ u. f (updated p t new u)) n + f (p t) ≡ sum_below (λ u. f (p u)) n + f new
sum_below-updated f p t new n less =
    let is : f (updated p t new t) ≡ f new = ap f (updated-same p t new) in
    let changed = sum_below-changed (λ u. f (p u)) (λ u. f (updated p t new u)) t n less (λ u low apart. ap f (updated-other p t new u apart)) in
    omega (arith, is, changed)

-- ---- a sum of which one summand counts

-- a number at one place, and 0 elsewhere
abbrev pub only : (u c : ℕ) → ℕ → ℕ
only u c t = if u == t then c else 0

only-none : (u c n : ℕ) → n ≤ u → sum_below (only u c) n ≡ 0
only-none u c zero less = refl
only-none u c (suc n) less =
    let rest = only-none u c n (omega (arith, less)) in
    rw (ne_eqb u n (λ same. absurd (omega (arith, same, less)))) (omega (arith, rest))

pub only-once : (u c n : ℕ) → u < n → sum_below (only u c) n ≡ c
only-once u c zero less = absurd (omega (arith, less))
only-once u c (suc n) less = elim (cases_eq u n) [
  | inl same ↦
      let rest = only-none u c n (omega (arith, same)) in
      rw (eq-eqb u n same) (omega (arith, rest))
  | inr other ↦
      let rest = only-once u c n (omega (arith, less, other)) in
      rw (ne_eqb u n other) (omega (arith, rest))
]

pub only-zero : (u n : ℕ) → sum_below (only u 0) n ≡ 0
only-zero u n = sum_below-same (only u 0) (λ t. 0) n (λ t less. by_case (u == t)) ∙ sum_below-zero n
  where
    by_case : (b : Bool) → ◌≡◌ {A = ℕ} (if b then 0 else 0) 0
    by_case true = refl
    by_case false = refl

-- ---- lists

-- the same as the sum over the list of these numbers
pub sum_below-range : (f : ℕ → ℕ) (n : ℕ) → sum_by f (range_with_len 0 n) ≡ sum_below f n
sum_below-range f zero = refl
sum_below-range f (suc n) =
    let rest = sum_below-range f n in
    let ranged : range_with_len 0 (n + 1) ≡ range_with_len 0 n ++ n ∷ [] = sym (map-id (range_with_len 0 (n + 1))) ∙ map-range_with_len_more (λ (k : ℕ). k) 0 n n (omega arith) ∙ ap (λ l. l ++ n ∷ []) (map-id (range_with_len 0 n)) in
    let more : suc n ≡ n + 1 = omega arith in
    ap (λ (k : ℕ). sum_by f (range_with_len 0 k)) more ∙ ap (sum_by f) ranged ∙ sum_by_push f (range_with_len 0 n) n ∙ ap (λ (k : ℕ). k + f n) rest
