-- The first accesses of a list that grows.
use Rattle.std.proofs.Common.{◌≡◌, ℕ, ◌+◌, ◌<◌, ◌≤◌, List, [], ◌∷◌, ◌++◌, length, refl, sym, ap, ◌∙◌, length-append, arith}
use Rattle.std.proofs.lemmas.List.{take-append-le, length-take, take_all}
use Rattle.run_merge.specs.Logs.{IsFirst, most_logged}
use Rattle.run_merge.specs.declared.logs.Stamped.{Stamped}

pub most_is : most_logged ≡ 1000000
unfolding most_logged
most_is = refl

-- one is kept more, as long as there is room
pub first_more : (all first : List Stamped) (count : ℕ) (one : Stamped) → length first < most_logged → IsFirst all first count
    → IsFirst (all ++ one ∷ []) (first ++ one ∷ []) (count + 1)
first_more all first count one less is =
    let short : length all < most_logged = omega (arith, less, ap length is.first_are, length-take most_logged all) in
    let whole : first ≡ all = is.first_are ∙ take_all most_logged all (omega (arith, short)) in
    let long : length (all ++ one ∷ []) ≡ length all + 1 = length-append all (one ∷ []) in
    record {
      count_is = omega (arith, long, is.count_is);
      first_are = ap (λ l. l ++ one ∷ []) whole ∙ sym (take_all most_logged (all ++ one ∷ []) (omega (arith, long, short)));
    }

-- and none where there is none
pub first_full : (all first : List Stamped) (count : ℕ) (one : Stamped) → most_logged ≤ length first → IsFirst all first count → IsFirst (all ++ one ∷ []) first (count + 1)
first_full all first count one full is =
    let many : most_logged ≤ length all = omega (arith, full, ap length is.first_are, length-take most_logged all) in
    record {
      count_is = omega (arith, length-append all (one ∷ []), is.count_is);
      first_are = is.first_are ∙ sym (take-append-le most_logged all (one ∷ []) many);
    }
