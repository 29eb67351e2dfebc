-- The words and the marks of a memory that is made, one after another.
use Rattle.std.proofs.Common.{◌≡◌, ◌+◌, ◌<◌, ℕ, zero, suc, Bool, true, false, IsTrue, List, length, get_or, nat_lt, replicate, set, arith, inl, inr, ap, refl, sym, ◌∙◌, get_or-set_same, get_or-set_other}
use Rattle.std.proofs.lemmas.Bool.{cases_eq, cases_lt, eqb-true, le-ltb, lt-ltb}
use Rattle.std.proofs.lemmas.List.{get_or-replicate, get_or_past, length-replicate}
use Rattle.std.proofs.lemmas.Nat.{ones_le_self}
use Rattle.std.specs.Int.{is_power_of_two}
use Rattle.std.specs.Int.RustNames.{count_ones}
use Rattle.shared_memory.specs.Passes.{marked}

-- a power of two of classes is some
pub some-class : (classes : ℕ) → IsTrue (is_power_of_two classes) → 0 < classes
some-class classes power =
    let few = ones_le_self classes in
    let one : count_ones classes ≡ 1 = eqb-true (count_ones classes) 1 power in
    omega arith

pub zero-words : (n k : ℕ) → get_or (replicate {A = ℕ} n 0) k 0 ≡ 0
zero-words zero k = refl
zero-words (suc n) zero = refl
zero-words (suc n) (suc k) = zero-words n k

pub no-marks : (n k : ℕ) → marked (replicate n false) k ≡ nat_lt k 0
no-marks n k = none n k ∙ sym (le-ltb k 0 (omega arith))
  where
    none : (n k : ℕ) → marked (replicate n false) k ≡ false
    none zero k = refl
    none (suc n) zero = refl
    none (suc n) (suc k) = none n k

-- the marks of the first numbers
pub first-marks : (threads t : ℕ) → marked (replicate threads true) t ≡ nat_lt t threads
first-marks threads t = elim (cases_lt t threads) [
  | inl below ↦ get_or-replicate threads t true false below ∙ sym (lt-ltb t threads below)
  | inr above ↦ get_or_past (replicate threads true) t false (let long = length-replicate threads true in omega arith) ∙ sym (le-ltb t threads above)
]

-- one more mark
pub mark-more : (has : List Bool) (t : ℕ) → t < length has → ((k : ℕ) → marked has k ≡ nat_lt k t) → (k : ℕ) → marked (set has t true) k ≡ nat_lt k (t + 1)
mark-more has t h before k = elim (cases_eq k t) [
  | inl same ↦ ap (marked (set has t true)) same ∙ get_or-set_same has t true false h ∙ sym (lt-ltb k (t + 1) (omega arith))
  | inr other ↦ get_or-set_other has t k true false other ∙ before k ∙ (elim (cases_lt k t) [
    | inl below ↦ lt-ltb k t below ∙ sym (lt-ltb k (t + 1) (omega arith))
    | inr above ↦ le-ltb k t above ∙ sym (le-ltb k (t + 1) (omega arith))
  ])
]
