-- Which numbers handles hold that were split, have taken in others, or have all.
use Rattle.std.proofs.Common.{◌≡◌, ◌≢◌, ◌==◌, ◌&&◌, inl, inr, not, nat_lt, ℕ, ◌-◌, ◌+◌, ◌<◌, Bool, true, sym, ap, ◌∙◌, arith}
use Rattle.std.proofs.lemmas.Bool.{and_parts, cases_Bool, eq-eqb, eqb-true, ltb-false, ltb-true, ne_eqb, or_cases, or_left, or_right}
use Rattle.std.specs.Cmp.Derive.{both_true}
use Rattle.shared_memory.specs.Seen.{IsOneOf, IsSingle, all_but, joint}
use Rattle.memory_handle.specs.Numbers.{AreFrom}

false_true : not true ≡ true → ⊥
false_true same = cc

-- who is one of all but one was one of all
pub had-but : (t u : ℕ) (old new : ℕ → Bool) → new ≡ all_but t old → IsOneOf u new → IsOneOf u old
had-but t u old new is has = (and_parts (old u) (not (u == t)) (sym (ap (λ f. f u) is) ∙ has)).0

-- the last was given away
pub from-split : (first upto : ℕ) (old new : ℕ → Bool) → AreFrom first upto old → first < upto → new ≡ all_but (upto - 1) old → AreFrom first (upto - 1) new
from-split first upto old new are some is = record {
  here = λ u low high.
      let other : u ≢ upto - 1 = λ same. absurd (omega (arith, high, same)) in
      ap (λ f. f u) is ∙ both_true (are.here u low (omega (arith, high))) (ap not (ne_eqb u (upto - 1) other));
  only = λ u has.
      let parts = and_parts (old u) (not (u == upto - 1)) (sym (ap (λ f. f u) is) ∙ has) in
      let was = are.only u parts.0 in
      let other : u ≢ upto - 1 = λ same. false_true (sym (ap not (eq-eqb u (upto - 1) same)) ∙ parts.1) in
      (was.0, omega (arith, was.1, other));
}

-- those that come next were taken in
pub from-join : (first mid upto : ℕ) (one other new : ℕ → Bool) → AreFrom first mid one → AreFrom mid upto other → first < mid → mid < upto → new ≡ joint one other → AreFrom first upto new
from-join first mid upto one other new mine yours some more is = record {
  here = λ u low high. ap (λ f. f u) is ∙ (elim (cases_Bool (nat_lt u mid)) [
    | inl below ↦ or_left (one u) (other u) (mine.here u low (ltb-true u mid below))
    | inr above ↦ or_right (one u) (other u) (yours.here u (ltb-false u mid above) high)
  ]);
  only = λ u has. elim (or_cases (one u) (other u) (sym (ap (λ f. f u) is) ∙ has)) [
    | inl left ↦ (let was = mine.only u left in (was.0, omega (arith, was.1, more)))
    | inr right ↦ (let was = yours.only u right in (omega (arith, was.0, some), was.1))
  ];
}

-- who has all threads has each
pub from-all : (first upto threads t : ℕ) (numbers : ℕ → Bool) → AreFrom first upto numbers → (first == 0 && upto == threads) ≡ true → t < threads → IsOneOf t numbers
from-all first upto threads t numbers are all below =
    let parts = and_parts (first == 0) (upto == threads) all in
    let low : first ≡ 0 = eqb-true first 0 parts.0 in
    let high : upto ≡ threads = eqb-true upto threads parts.1 in
    are.here t (omega (arith, low)) (omega (arith, high, below))

-- who has one thread has no second
pub not-several : {first upto : ℕ} {numbers : ℕ → Bool} → AreFrom first upto numbers → IsSingle first numbers → first + 1 < upto → ⊥
not-several {first = first} are single several = omega (arith, single.only (first + 1) (are.here (first + 1) (omega arith) several))
