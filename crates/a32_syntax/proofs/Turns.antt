-- Turns of eight bits.
use Rattle.std.proofs.Common.{◌≡◌, ℕ, suc, ◌+◌, ◌-◌, ◌<◌, ◌≤◌, nat_lt, Bool, if◌then◌else◌, Some, arith, ◌∙◌, ap}
use Rattle.std.specs.List.{find, range_with_len}
use Rattle.std.proofs.lemmas.Bool.{lt-ltb, le-ltb}
use Rattle.a32_syntax.specs.Meaning.{turned_back}

-- the turns that are left, from one of them on
least_from : (p : ℕ → Bool) (turn : ℕ) → turn < 16
    → find p (range_with_len turn (16 - turn)) ≡ (if p turn then Some turn else find p (range_with_len (turn + 1) (16 - (turn + 1))))
least_from p turn less =
    let left : 16 - turn ≡ suc (16 - (turn + 1)) = omega arith in
    ap (λ count. find p (range_with_len turn count)) left

pub least_here : (number turn : ℕ) → turn < 16 → turned_back number turn < 256
    → find (λ turn. nat_lt (turned_back number turn) 256) (range_with_len turn (16 - turn)) ≡ Some turn
least_here number turn less small =
    least_from (λ turn. nat_lt (turned_back number turn) 256) turn less
    ∙ ap (λ b. if b then Some turn else find (λ turn. nat_lt (turned_back number turn) 256) (range_with_len (turn + 1) (16 - (turn + 1)))) (lt-ltb (turned_back number turn) 256 small)

pub least_later : (number turn : ℕ) → turn < 16 → 256 ≤ turned_back number turn
    → find (λ turn. nat_lt (turned_back number turn) 256) (range_with_len turn (16 - turn))
    ≡ find (λ turn. nat_lt (turned_back number turn) 256) (range_with_len (turn + 1) (16 - (turn + 1)))
least_later number turn less large =
    least_from (λ turn. nat_lt (turned_back number turn) 256) turn less
    ∙ ap (λ b. if b then Some turn else find (λ turn. nat_lt (turned_back number turn) 256) (range_with_len (turn + 1) (16 - (turn + 1)))) (le-ltb (turned_back number turn) 256 large)
