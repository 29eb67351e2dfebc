-- The guests of all threads are made one after another.
use Rattle.std.proofs.Common.{◌≡◌, ℕ, suc, ◌+◌, ◌<◌, ◌≤◌, ◌==◌, ◌&&◌, not, nat_le, nat_lt, arith, Bool, true, List, [], ◌∷◌, ◌++◌, sym, ap, ◌∙◌}
use Rattle.shared_memory.specs.Seen.{IsOneOf, IsSingle, all_but}
use Rattle.slice_pool.specs.Hands.{downto}
use Rattle.slice_pool.specs.Rule.{last_first}
use Rattle.slice_pool.specs.declared.queue.Waiting.{Waiting}
use Rattle.slice_pool.proofs.AtWork.{last_first_more}

-- the numbers from one up, below how many there are
abbrev pub is_from : (t count : ℕ) → ℕ → Bool
is_from t count u = nat_le t u && nat_lt u count

-- a pass has just these
abbrev pub AreFrom : (t count : ℕ) → (ℕ → Bool) → Type 0
AreFrom t count numbers = (u : ℕ) → numbers u ≡ is_from t count u

is_one : (t count u : ℕ) → t ≤ u → u < count → is_from t count u ≡ true
is_one t count u least below = grind arith

is_last : (t count u : ℕ) → t + 1 ≡ count → is_from t count u ≡ true → u ≡ t
is_last t count u last is = grind arith

without_least : (t count u : ℕ) → (is_from t count u && not (u == t)) ≡ is_from (t + 1) count u
without_least t count u = grind arith

from_zero : (count u : ℕ) → nat_lt u count ≡ is_from 0 count u
from_zero count u = grind arith

module _ (t count : ℕ) (numbers : ℕ → Bool) (are : AreFrom t count numbers) where
  pub has_one : (u : ℕ) → t ≤ u → u < count → IsOneOf u numbers
  has_one u least below = are u ∙ is_one t count u least below

  -- the least was split off
  pub one_less : (new : ℕ → Bool) → new ≡ all_but t numbers → AreFrom (t + 1) count new
  one_less new is u = ap (λ (f : ℕ → Bool). f u) is ∙ ap (λ (b : Bool). b && not (u == t)) (are u) ∙ without_least t count u

  -- the last one
  pub single_left : t + 1 ≡ count → IsSingle t numbers
  single_left last = record {
    has = has_one t (omega arith) (omega (arith, last));
    only = λ u has. is_last t count u last (sym (are u) ∙ has);
  }

-- before any was split off
pub all_from : (count : ℕ) (numbers : ℕ → Bool) → ((u : ℕ) → numbers u ≡ nat_lt u count) → AreFrom 0 count numbers
all_from count numbers all u = all u ∙ from_zero count u

-- one guest more
pub numbers_more : {P : Type 0} (guests new : List (Waiting P)) (guest : Waiting P) (t : ℕ) → new ≡ guests ++ guest ∷ [] → guest.thread ≡ t
    → last_first guests [] ≡ downto t → last_first new [] ≡ downto (suc t)
numbers_more guests new guest t pushed thread numbers =
    ap (λ l. last_first l []) pushed ∙ last_first_more guests guest [] ∙ ap (λ u. u ∷ last_first guests []) thread ∙ ap (λ l. t ∷ l) numbers
