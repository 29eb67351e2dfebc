-- How often each counter is added to, and the counters as words apart.
use Rattle.std.proofs.Common.{◌≡◌, ◌≢◌, ◌⊎◌, ℕ, zero, suc, ◌+◌, ◌<◌, ◌≤◌, refl, ap, arith, inl, inr}
use Rattle.std.proofs.lemmas.Bool.{cases_lt}
use Rattle.history.proofs.Additions.{AreBelow, Words, times}
use Rattle.guest_gen.specs.Counters.{counter_at, counter_place}
use Rattle.guest_gen.specs.Namings.{drawn_after, named_by, named_in, namings_in, one_at}

pub times-named_in : (index x rounds : ℕ) → times index (named_in x rounds) ≡ namings_in x rounds index
unfolding named_in namings_in
times-named_in index x zero = refl
times-named_in index x (suc rounds) = ap (λ (n : ℕ). one_at index (named_by (drawn_after x)) + n) (times-named_in index (drawn_after x) rounds)

pub below-named_in : (x rounds : ℕ) → AreBelow 16 (named_in x rounds)
unfolding named_in
below-named_in x zero = tt
below-named_in x (suc rounds) = (omega arith, below-named_in (drawn_after x) rounds)

pub apart : (i j : ℕ) → i < 16 → j < 16 → i ≢ j → (counter_at i + 4 ≤ counter_at j) ⊎ (counter_at j + 4 ≤ counter_at i)
apart i j known other_known other = elim (cases_lt i j) [
  | inl less ↦ inl (omega (arith, less))
  | inr from ↦ inr (omega (arith, from, other))
]

abbrev pub counter_words : Words
counter_words = record { word = counter_place; count = 16; apart = apart }
