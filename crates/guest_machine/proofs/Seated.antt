-- Threads that have not stopped.
use Rattle.std.proofs.Common.{◌≡◌, ◌≢◌, ℕ, zero, suc, ◌+◌, ◌<◌, ◌≤◌, ◌==◌, ◌||◌, not, Bool, true, false, if◌then◌else◌, List, [], ◌∷◌, All, length, slice_get, Some, refl, sym, ◌∙◌, ap, subst, inl, inr, arith, eq-eqb, eqb-true}
use Rattle.std.specs.List.{range_with_len}
use Rattle.std.proofs.lemmas.Bool.{ne_eqb, cases_eq}
use Rattle.std.proofs.lemmas.List.Elements.{All-nil, All-cons, All-head, All-tail, All-filter, All-weaker}
use Rattle.std.proofs.lemmas.List.Sums.{length-filter, count_by-le-length}
use Rattle.guest_machine.specs.inner.Seats.{is_one_of}
use Rattle.guest_machine.specs.Turns.{turn_of, without}

or_front : (a b : Bool) → a ≡ true → (a || b) ≡ true
or_front true b is = refl
or_front false b is = cc

or_back : (a b : Bool) → b ≡ true → (a || b) ≡ true
or_back true b is = refl
or_back false b is = is

-- one that is got of some is one of them
got_in : (threads : List ℕ) (k t : ℕ) → slice_get threads k ≡ Some t → is_one_of threads t ≡ true
got_in [] k t got = cc
got_in (other ∷ threads) zero t got = let same : other ≡ t = cc in or_front (other == t) (is_one_of threads t) (eq-eqb other t same)
got_in (other ∷ threads) (suc k) t got = or_back (other == t) (is_one_of threads t) (got_in threads k t got)

got_below : (n : ℕ) (threads : List ℕ) (k t : ℕ) → All (λ u. u < n) threads → slice_get threads k ≡ Some t → t < n
got_below n [] k t below got = cc
got_below n (other ∷ threads) zero t below got = let same : other ≡ t = cc in subst (λ u. u < n) same (All-head (λ u. u < n) other threads below)
got_below n (other ∷ threads) (suc k) t below got = got_below n threads k t (All-tail (λ u. u < n) other threads below) got

-- whose turn it is has not stopped
pub turn_live : (x t : ℕ) (live : List ℕ) → turn_of x live ≡ Some t → is_one_of live t ≡ true
turn_live x t live turn = got_in live _ t turn

pub turn_below : (n x t : ℕ) (live : List ℕ) → All (λ u. u < n) live → turn_of x live ≡ Some t → t < n
turn_below n x t live below turn = got_below n live _ t below turn

-- a thread that is taken out is none of the others
pub taken_out : (t : ℕ) (threads : List ℕ) → is_one_of (without t threads) t ≡ false
taken_out t [] = refl
taken_out t (other ∷ threads) = one (other == t) refl (taken_out t threads)
  where
    one : (b : Bool) → (other == t) ≡ b → is_one_of (without t threads) t ≡ false
        → is_one_of (if not b then other ∷ without t threads else without t threads) t ≡ false
    one true is rest = rest
    one false is rest = rw is rest

-- and the others stay
pub left_in : (other t : ℕ) (threads : List ℕ) → other ≢ t → is_one_of (without t threads) other ≡ is_one_of threads other
left_in other t [] differs = refl
left_in other t (first ∷ threads) differs = one (first == t) refl (left_in other t threads differs)
  where
    one : (b : Bool) → (first == t) ≡ b → is_one_of (without t threads) other ≡ is_one_of threads other
        → is_one_of (if not b then first ∷ without t threads else without t threads) other ≡ is_one_of (first ∷ threads) other
    one true is rest =
        let another : (first == other) ≡ false = ne_eqb first other (λ same. differs (sym same ∙ eqb-true first t is)) in
        rest ∙ sym (ap (λ c. c || is_one_of threads other) another)
    one false is rest = ap (λ c. (first == other) || c) rest

-- those that are left are below what all are
pub still_below : (n t : ℕ) (threads : List ℕ) → All (λ u. u < n) threads → All (λ u. u < n) (without t threads)
still_below n t threads below = All-filter (λ other. not (other == t)) (λ u. u < n) threads below

-- none are more than they were
no_more : (t : ℕ) (threads : List ℕ) → length (without t threads) ≤ length threads
no_more t threads = omega (arith, length-filter (λ other. not (other == t)) threads, count_by-le-length (λ other. not (other == t)) threads)

-- with one taken out there are fewer
pub fewer : (t : ℕ) (threads : List ℕ) → is_one_of threads t ≡ true → length (without t threads) < length threads
fewer t [] is = cc
fewer t (other ∷ threads) is = one (other == t) refl (λ rest. fewer t threads rest)
  where
    one : (b : Bool) → (other == t) ≡ b → (is_one_of threads t ≡ true → length (without t threads) < length threads)
        → length (if not b then other ∷ without t threads else without t threads) < suc (length threads)
    one true same rest = omega (arith, no_more t threads)
    one false differs rest = omega (arith, rest (sym (ap (λ c. c || is_one_of threads t) differs) ∙ is))

-- all of a range
pub in_range : (n t start : ℕ) → start ≤ t → t < start + n → is_one_of (range_with_len start n) t ≡ true
in_range zero t start from to = absurd (let f : ⊥ = omega (arith, from, to) in f)
in_range (suc n) t start from to = elim (cases_eq start t) [
  | inl same ↦ or_front (start == t) (is_one_of (range_with_len (start + 1) n) t) (eq-eqb start t same)
  | inr differs ↦ or_back (start == t) (is_one_of (range_with_len (start + 1) n) t)
      (in_range n t (start + 1) (omega (arith, from, differs)) (omega (arith, to)))
]

pub range_below : (n start : ℕ) → All (λ u. u < start + n) (range_with_len start n)
range_below zero start = All-nil (λ u. u < start + 0)
range_below (suc n) start =
    All-cons (λ u. u < start + suc n) start (range_with_len (start + 1) n) (omega arith)
    (All-weaker (λ u. u < start + 1 + n) (λ u. u < start + suc n) (λ u below. omega (arith, below)) (range_with_len (start + 1) n) (range_below n (start + 1)))
