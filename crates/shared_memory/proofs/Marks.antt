-- Lists of marks, read as tests of numbers.
use Rattle.std.proofs.Common.{◌≡◌, ◌≢◌, ℕ, zero, suc, ◌<◌, ◌&&◌, ◌||◌, not, Bool, true, false, nat_eq, List, [], ◌∷◌, length, set, refl, ap, sym, ◌∙◌, get_or-set_other, inl, inr, arith}
use Rattle.std.proofs.lemmas.Bool.{cases_eq, eq-eqb, ne_eqb}
use Rattle.shared_memory.specs.Seen.{IsOneOf, IsSingle, all_but, joint}
use Rattle.shared_memory.specs.Passes.{marked, one_mark}
use Rattle.shared_memory.specs.inner.Passes.{merged}

-- a number at which a mark stands is within
pub marked-below : (marks : List Bool) (t : ℕ) → IsOneOf t (marked marks) → t < length marks
marked-below [] t h = absurd (let f : ⊥ = cc in f)
marked-below (x ∷ xs) zero h = omega arith
marked-below (x ∷ xs) (suc t) h = let r = marked-below xs t h in omega arith

pub one-here : (t : ℕ) → marked (one_mark t) t ≡ true
one-here zero = refl
one-here (suc t) = one-here t

pub one-else : (t u : ℕ) → u ≢ t → marked (one_mark t) u ≡ false
one-else zero zero ne = absurd (ne refl)
one-else zero (suc u) ne = refl
one-else (suc t) zero ne = refl
one-else (suc t) (suc u) ne = one-else t u (λ same. ne (ap suc same))

pub single-one : (t : ℕ) → IsSingle t (marked (one_mark t))
single-one t = record {
  has = one-here t;
  only = λ u has. elim (cases_eq u t) [ inl same ↦ same | inr other ↦ absurd (let f : false ≡ true = sym (one-else t u other) ∙ has in let g : ⊥ = cc in g) ];
}

pub marked-merged : (xs ys : List Bool) (u : ℕ) → marked (merged xs ys) u ≡ joint (marked xs) (marked ys) u
marked-merged [] ys u = refl
marked-merged (x ∷ xs) [] zero = elim x as (λ b. b ≡ (b || false)) [ true ↦ refl | false ↦ refl ]
marked-merged (x ∷ xs) [] (suc u) = elim (marked xs u) as (λ b. b ≡ (b || false)) [ true ↦ refl | false ↦ refl ]
marked-merged (x ∷ xs) (y ∷ ys) zero = refl
marked-merged (x ∷ xs) (y ∷ ys) (suc u) = marked-merged xs ys u

-- a mark taken away
pub marked-taken : (marks : List Bool) (t u : ℕ) → marked (set marks t false) u ≡ all_but t (marked marks) u
marked-taken marks t u = elim (cases_eq u t) [
  | inl same ↦ ap (marked (set marks t false)) same ∙ taken-here marks t ∙ sym (ap (λ (b : Bool). marked marks u && not b) (eq-eqb u t same) ∙ and-none (marked marks u))
  | inr other ↦ get_or-set_other marks t u false false other ∙ sym (ap (λ (b : Bool). marked marks u && not b) (ne_eqb u t other) ∙ and-all (marked marks u))
]
  where
    taken-here : (marks : List Bool) (t : ℕ) → marked (set marks t false) t ≡ false
    taken-here [] t = refl
    taken-here (x ∷ xs) zero = refl
    taken-here (x ∷ xs) (suc t) = taken-here xs t

    and-none : (b : Bool) → (b && false) ≡ false
    and-none true = refl
    and-none false = refl

    and-all : (b : Bool) → (b && true) ≡ b
    and-all true = refl
    and-all false = refl

pub taken-not : (marks : List Bool) (t : ℕ) → IsOneOf t (marked (set marks t false)) → ⊥
taken-not marks t h = let f : (marked marks t && not (nat_eq t t)) ≡ true = sym (marked-taken marks t t) ∙ h in
    let g : (marked marks t && false) ≡ true = ap (λ (b : Bool). marked marks t && not b) (sym (eq-eqb t t refl)) ∙ f in no-and (marked marks t) g
  where
    no-and : (b : Bool) → (b && false) ≡ true → ⊥
    no-and true h = let f : ⊥ = cc in f
    no-and false h = let f : ⊥ = cc in f

pub taken-was : (marks : List Bool) (t u : ℕ) → IsOneOf u (marked (set marks t false)) → IsOneOf u (marked marks)
taken-was marks t u h = left-of (marked marks u) (not (nat_eq u t)) (sym (marked-taken marks t u) ∙ h)
  where
    left-of : (a b : Bool) → (a && b) ≡ true → a ≡ true
    left-of true b h = refl
    left-of false b h = h

pub taken-other : (marks : List Bool) (t u : ℕ) → u ≢ t → IsOneOf u (marked marks) → IsOneOf u (marked (set marks t false))
taken-other marks t u other h = marked-taken marks t u ∙ ap (λ (b : Bool). b && not (nat_eq u t)) h ∙ ap not (ne_eqb u t other)
