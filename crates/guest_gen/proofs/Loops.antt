-- The loops that count namings.
use Rattle.std.proofs.Common.{◌≡◌, ℕ, suc, ◌+◌, ◌-◌, ◌<◌, refl, ap, arith}
use Rattle.guest_gen.specs.Namings.{drawn_after, first_draw, named_by, namings_in, namings_of, one_at}

-- one round more
pub namings_more : (x rounds round index : ℕ) → round < rounds
    → namings_in x (rounds - round) index ≡ one_at index (named_by (drawn_after x)) + namings_in (drawn_after x) (rounds - (round + 1)) index
unfolding namings_in
namings_more x rounds round index less =
    let one : rounds - round ≡ suc (rounds - (round + 1)) = omega (arith, less) in
    ap (λ (n : ℕ). namings_in x n index) one

pub namings_none : (x index : ℕ) → namings_in x 0 index ≡ 0
unfolding namings_in
namings_none x index = refl

-- one thread more
pub threads_none : (seed rounds index : ℕ) → namings_of seed 0 rounds index ≡ 0
unfolding namings_of
threads_none seed rounds index = refl

pub threads_more : (seed thread rounds index : ℕ) → namings_of seed (thread + 1) rounds index ≡ namings_of seed thread rounds index + namings_in (first_draw seed thread) rounds index
unfolding namings_of
threads_more seed thread rounds index = let one : thread + 1 ≡ suc thread = omega arith in ap (λ (n : ℕ). namings_of seed n rounds index) one
