-- Numbers are split off a pass of all threads, one after another.
use Rattle.std.proofs.Common.{◌≡◌, ℕ, ◌+◌, ◌<◌, ◌≤◌, ◌==◌, ◌&&◌, not, nat_lt, Bool, true, arith, sym, ap, ◌∙◌}
use Rattle.shared_memory.specs.Seen.{IsOneOf, IsSingle, all_but}
use Rattle.guest_family.specs.inner.Left.{AreLeft, is_left}

zero_left : (first all low top : ℕ) → is_left first all low top 0 ≡ true
zero_left first all low top = grind arith

top_left : (first all low top : ℕ) → top < all → is_left first all low top top ≡ true
top_left first all low top below = grind arith

low_left : (first all low top : ℕ) → low < first → is_left first all low top low ≡ true
low_left first all low top below = grind arith

without_top : (first all low top u : ℕ) → 1 ≤ first → first ≤ top → (is_left first all low top u && not (u == top)) ≡ is_left first all low (top + 1) u
without_top first all low top u some above = grind arith

without_low : (first all low top u : ℕ) → 1 ≤ low → low < first → first ≤ top → (is_left first all low top u && not (u == low)) ≡ is_left first all (low + 1) top u
without_low first all low top u some below above = grind arith

all_first : (first all u : ℕ) → 1 ≤ first → first ≤ all → nat_lt u all ≡ is_left first all 1 first u
all_first first all u some below = grind arith

none_else : (first all u : ℕ) → is_left first all first all u ≡ true → u ≡ 0
none_else first all u is = grind arith

module _ (first all low top : ℕ) (numbers : ℕ → Bool) (left : AreLeft first all low top numbers) where
  pub left_zero : IsOneOf 0 numbers
  left_zero = left 0 ∙ zero_left first all low top

  pub left_top : top < all → IsOneOf top numbers
  left_top below = left top ∙ top_left first all low top below

  pub left_low : low < first → IsOneOf low numbers
  left_low below = left low ∙ low_left first all low top below

  pub one_less_above : (new : ℕ → Bool) → 1 ≤ first → first ≤ top → new ≡ all_but top numbers → AreLeft first all low (top + 1) new
  one_less_above new some above is u =
      ap (λ (f : ℕ → Bool). f u) is ∙ ap (λ (b : Bool). b && not (u == top)) (left u) ∙ without_top first all low top u some above

  pub one_less_below : (new : ℕ → Bool) → 1 ≤ low → low < first → first ≤ top → new ≡ all_but low numbers → AreLeft first all (low + 1) top new
  one_less_below new some below above is u =
      ap (λ (f : ℕ → Bool). f u) is ∙ ap (λ (b : Bool). b && not (u == low)) (left u) ∙ without_low first all low top u some below above

pub all_left : (first all : ℕ) (numbers : ℕ → Bool) → 1 ≤ first → first ≤ all → ((u : ℕ) → numbers u ≡ nat_lt u all) → AreLeft first all 1 first numbers
all_left first all numbers some below is u = is u ∙ all_first first all u some below

pub zero_alone : (first all : ℕ) (numbers : ℕ → Bool) → AreLeft first all first all numbers → IsSingle 0 numbers
zero_alone first all numbers left = record {
  has = left 0 ∙ zero_left first all first all;
  only = λ u one. none_else first all u (sym (left u) ∙ one);
}
