-- All counters together are named once in each round.
use Rattle.std.proofs.Common.{◌≡◌, ℕ, zero, suc, ◌*◌, refl, sym, ◌∙◌, arith, suc-mul}
use Rattle.std.specs.List.{range_with_len, sum_by}
use Rattle.guest_gen.specs.Namings.{drawn_after, first_draw, named_by, namings_in, namings_of, one_at}
use Rattle.history.proofs.SumsBelow.{only-once, sum_below, sum_below-plus, sum_below-range, sum_below-zero}

-- a round names one of 16
round_once : (x n : ℕ) → n ≡ 16 → sum_below (λ i. one_at i (named_by (drawn_after x))) n ≡ 1
round_once x n is = only-once (named_by (drawn_after x)) 1 n (omega (arith, is))

rounds_once : (x rounds n : ℕ) → n ≡ 16 → sum_below (λ i. namings_in x rounds i) n ≡ rounds
unfolding namings_in
rounds_once x zero n is = sum_below-zero n
rounds_once x (suc rounds) n is =
    let one = round_once x n is in
    let rest = rounds_once (drawn_after x) rounds n is in
    sum_below-plus (λ i. one_at i (named_by (drawn_after x))) (λ i. namings_in (drawn_after x) rounds i) n ∙ omega (arith, one, rest)

all_below : (seed threads rounds n : ℕ) → n ≡ 16 → sum_below (λ i. namings_of seed threads rounds i) n ≡ threads * rounds
unfolding namings_of
all_below seed zero rounds n is = sum_below-zero n ∙ omega arith
all_below seed (suc t) rounds n is =
    let one = rounds_once (first_draw seed t) rounds n is in
    let rest = all_below seed t rounds n is in
    sum_below-plus (λ i. namings_of seed t rounds i) (λ i. namings_in (first_draw seed t) rounds i) n ∙ omega (arith, one, rest) ∙ sym (suc-mul t rounds)

-- so all namings are as many as the rounds of all threads
pub all_namings : (seed threads rounds : ℕ) → sum_by (namings_of seed threads rounds) (range_with_len 0 16) ≡ threads * rounds
all_namings seed threads rounds = sum_below-range (namings_of seed threads rounds) 16 ∙ all_below seed threads rounds 16 refl
