-- A pass that holds the numbers of the first threads, and of all that each of them may start, holds those of all threads.
use Rattle.std.proofs.Common.{◌≡◌, inl, inr, ℕ, zero, suc, ◌+◌, ◌-◌, ◌*◌, ◌<◌, ◌≤◌, Bool, List, [], ◌∷◌, ◌++◌, arith, subst, ap}
use Rattle.std.specs.List.{flat_map, range_with_len}
use Rattle.std.proofs.Math.Nat.{suc-mul}
use Rattle.std.proofs.lemmas.Bool.{cases_lt}
use Rattle.std.proofs.lemmas.List.Elements.{All-cons, All-head, All-nil, All-tail}
use Rattle.history.specs.Started.{child_of}
use Rattle.shared_memory.specs.Seen.{IsOneOf}
use Rattle.guest_thread.specs.inner.Crews.{AreTaken}
use Rattle.guest_thread.proofs.Crewed.{taken_at}
use Rattle.guest_family.specs.Kin.{own_numbers}

front_taken : (numbers : ℕ → Bool) (ts us : List ℕ) → AreTaken numbers (ts ++ us) → AreTaken numbers ts
front_taken numbers [] us taken = All-nil (λ u. IsOneOf u numbers)
front_taken numbers (t ∷ ts) us taken =
    All-cons (λ u. IsOneOf u numbers) t ts (All-head (λ u. IsOneOf u numbers) t (ts ++ us) taken)
    (front_taken numbers ts us (All-tail (λ u. IsOneOf u numbers) t (ts ++ us) taken))

back_taken : (numbers : ℕ → Bool) (ts us : List ℕ) → AreTaken numbers (ts ++ us) → AreTaken numbers us
back_taken numbers [] us taken = taken
back_taken numbers (t ∷ ts) us taken = back_taken numbers ts us (All-tail (λ u. IsOneOf u numbers) t (ts ++ us) taken)

own_taken : (numbers : ℕ → Bool) (first spare n count u : ℕ) → AreTaken numbers (flat_map (own_numbers first spare) (range_with_len n count))
    → first + n * spare ≤ u → u < first + (n + count) * spare → IsOneOf u numbers
own_taken numbers first spare n zero u taken least below =
    let none : n + zero ≡ n = omega arith in
    let same : (n + zero) * spare ≡ n * spare = ap (λ (k : ℕ). k * spare) none in
    absurd (omega (arith, least, below, same))
own_taken numbers first spare n (suc count) u taken least below = elim (cases_lt u (first + n * spare + spare)) [
  | inl here ↦
      let at : u - (first + n * spare) < spare = omega (arith, least, here) in
      let number : child_of first spare n 0 + (u - (first + n * spare)) ≡ u = omega (arith, least) in
      subst (λ (k : ℕ). IsOneOf k numbers) number
      (taken_at numbers (child_of first spare n 0) spare (u - (first + n * spare))
      (front_taken numbers (own_numbers first spare n) (flat_map (own_numbers first spare) (range_with_len (n + 1) count)) taken) at)
  | inr later ↦
      let one : suc n * spare ≡ n * spare + spare = suc-mul n spare in
      let next : n + 1 ≡ suc n = omega arith in
      let times : (n + 1) * spare ≡ suc n * spare = ap (λ (k : ℕ). k * spare) next in
      let ends : n + 1 + count ≡ n + suc count = omega arith in
      let same : (n + 1 + count) * spare ≡ (n + suc count) * spare = ap (λ (k : ℕ). k * spare) ends in
      let from : first + (n + 1) * spare ≤ u = omega (arith, later, one, times) in
      let to : u < first + (n + 1 + count) * spare = omega (arith, below, same) in
      own_taken numbers first spare (n + 1) count u
      (back_taken numbers (own_numbers first spare n) (flat_map (own_numbers first spare) (range_with_len (n + 1) count)) taken) from to
]

pub all_numbers : (numbers : ℕ → Bool) (first spare threads u : ℕ) (ts : List ℕ) → ts ≡ range_with_len 0 first → AreTaken numbers ts
    → AreTaken numbers (flat_map (own_numbers first spare) ts) → first * (1 + spare) ≡ threads → u < threads → IsOneOf u numbers
all_numbers numbers first spare threads u ts is own taken all below = elim (cases_lt u first) [
  | inl less ↦
      let number : 0 + u ≡ u = omega arith in
      subst (λ (k : ℕ). IsOneOf k numbers) number (taken_at numbers 0 first u (subst (AreTaken numbers) is own) less)
  | inr from ↦
      let none : 0 + first ≡ first = omega arith in
      let same : (0 + first) * spare ≡ first * spare = ap (λ (k : ℕ). k * spare) none in
      let to : u < first + (0 + first) * spare = omega (arith, below, all, same) in
      let least : first + 0 * spare ≤ u = omega (arith, from) in
      own_taken numbers first spare 0 first u (subst (λ (us : List ℕ). AreTaken numbers (flat_map (own_numbers first spare) us)) is taken) least to
]
