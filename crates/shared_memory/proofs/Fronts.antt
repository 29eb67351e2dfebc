-- Fronts of histories, and what they say of threads.
use Rattle.std.proofs.Common.{◌≡◌, ℕ, ◌≤◌, Bool, nat_lt, List, [], ◌∷◌, ◌++◌, length, refl, ap, sym, ◌∙◌, append-nil, append_assoc, length-append, inl, inr, arith}
use Rattle.std.proofs.lemmas.Bool.{cases_Bool, eq-eqb, ltb-true, ltb-false}
use Rattle.history.specs.Entry.{thread_of}
use Rattle.history.specs.Parts.{entries_of}
use Rattle.history.specs.declared.entry.Entry.{Entry}
use Rattle.history.proofs.Appends.{entries_of-append}
use Rattle.shared_memory.specs.Seen.{IsFront, SaysAllOf, longer}

pub front-all : (xs : List Entry) → IsFront xs xs
front-all xs = ([], sym (append-nil xs))

pub front-more : (xs ys more : List Entry) → IsFront xs ys → IsFront xs (ys ++ more)
front-more xs ys more h = (h.0 ++ more, ap (λ (l : List Entry). l ++ more) h.1 ∙ append_assoc xs h.0 more)

-- of two fronts of a list the shorter one is a front of the other
pub fronts-compare : (xs ys l : List Entry) → IsFront xs l → IsFront ys l → length xs ≤ length ys → IsFront xs ys
fronts-compare [] ys l hx hy h = (ys, refl)
fronts-compare (x ∷ xs) [] l hx hy h = absurd (omega arith)
fronts-compare (x ∷ xs) (y ∷ ys) [] hx hy h = absurd (let same : [] ≡ x ∷ (xs ++ hx.0) = hx.1 in let f : ⊥ = cc in f)
fronts-compare (x ∷ xs) (y ∷ ys) (z ∷ l) hx hy h =
    let one : z ∷ l ≡ x ∷ (xs ++ hx.0) = hx.1 in
    let two : z ∷ l ≡ y ∷ (ys ++ hy.0) = hy.1 in
    let tail_one : l ≡ xs ++ hx.0 = cc in
    let tail_two : l ≡ ys ++ hy.0 = cc in
    let head : y ≡ x = cc in
    let rest = fronts-compare xs ys l (hx.0, tail_one) (hy.0, tail_two) (omega arith) in
    (rest.0, ap (λ (w : Entry). w ∷ ys) head ∙ ap (λ (w : List Entry). x ∷ w) rest.1)

pub none-added : (xs ys : List Entry) → xs ++ ys ≡ xs → ys ≡ []
none-added xs [] h = refl
none-added xs (y ∷ ys) h = absurd (omega (arith, length-append xs (y ∷ ys), ap length h))

first-none : (xs ys : List Entry) → xs ++ ys ≡ [] → xs ≡ []
first-none [] ys h = refl
first-none (x ∷ xs) ys h = absurd (let f : ⊥ = cc in f)

-- what a front says all of, a longer front says all of, and no more is added between
pub says_all-between : (numbers : ℕ → Bool) (xs ys l : List Entry) → IsFront xs ys → IsFront ys l → SaysAllOf numbers xs l → SaysAllOf numbers xs ys
says_all-between numbers xs ys l hx hy all t has =
    let e : entries_of t l ≡ entries_of t xs = all t has in
    let e1 : entries_of t ys ≡ entries_of t xs ++ entries_of t hx.0 = ap (entries_of t) hx.1 ∙ entries_of-append t xs hx.0 in
    let e2 : entries_of t l ≡ entries_of t ys ++ entries_of t hy.0 = ap (entries_of t) hy.1 ∙ entries_of-append t ys hy.0 in
    let parts : entries_of t xs ++ (entries_of t hx.0 ++ entries_of t hy.0) ≡ entries_of t xs =
    sym (append_assoc (entries_of t xs) (entries_of t hx.0) (entries_of t hy.0)) ∙ ap (λ (w : List Entry). w ++ entries_of t hy.0) (sym e1) ∙ sym e2 ∙ e in
    let none = none-added (entries_of t xs) (entries_of t hx.0 ++ entries_of t hy.0) parts in
    let first : entries_of t hx.0 ≡ [] = first-none (entries_of t hx.0) (entries_of t hy.0) none in
    e1 ∙ ap (λ (w : List Entry). entries_of t xs ++ w) first ∙ append-nil (entries_of t xs)

-- what all threads have had is the whole
pub whole-front : (xs l : List Entry) → IsFront xs l → ((t : ℕ) → entries_of t l ≡ entries_of t xs) → xs ≡ l
whole-front xs l h all = sym (h.1 ∙ ap (λ (w : List Entry). xs ++ w) (no-rest h.0 (λ t. none-added (entries_of t xs) (entries_of t h.0)
    (sym (entries_of-append t xs h.0) ∙ ap (entries_of t) (sym h.1) ∙ all t))) ∙ append-nil xs)
  where
    no-rest : (rest : List Entry) → ((t : ℕ) → entries_of t rest ≡ []) → rest ≡ []
    no-rest [] h = refl
    no-rest (e ∷ es) h =
        let t = thread_of e in
        let own : entries_of t (e ∷ es) ≡ e ∷ entries_of t es = rw (eq-eqb t t refl) refl in
        let none : e ∷ entries_of t es ≡ [] = sym own ∙ h t in
        absurd (let f : ⊥ = cc in f)

-- the longer of two fronts of a list is one, and each of them is a front of it
pub longer-is : (P : List Entry → Type 0) (xs ys : List Entry) → (length ys ≤ length xs → P xs) → (length xs ≤ length ys → P ys) → P (longer xs ys)
longer-is P xs ys hx hy = elim (cases_Bool (nat_lt (length xs) (length ys))) [
  | inl less ↦ let h = ltb-true (length xs) (length ys) less in rw less (hy (omega arith))
  | inr not ↦ let h = ltb-false (length xs) (length ys) not in rw not (hx (omega arith))
]

-- a thread that a list has no entry of has none in a front of it
pub front-none : (xs rest : List Entry) (t : ℕ) → entries_of t (xs ++ rest) ≡ [] → entries_of t xs ≡ []
front-none xs rest t none = first-none (entries_of t xs) (entries_of t rest) (sym (entries_of-append t xs rest) ∙ none)

pub front-trans : (xs ys zs : List Entry) → IsFront xs ys → IsFront ys zs → IsFront xs zs
front-trans xs ys zs one two = (one.0 ++ two.0, two.1 ∙ ap (λ (l : List Entry). l ++ two.0) one.1 ∙ append_assoc xs one.0 two.0)
