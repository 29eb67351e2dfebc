-- The turns that are left give the least of all.
use Rattle.std.proofs.Common.{◌≡◌, ◌-◌, nat_lt}
use Rattle.std.specs.List.{find, range_with_len}
use Rattle.a32_syntax.specs.Meaning.{least_turn, turned_back}
use Rattle.a32_syntax.proofs.second_operands.least_turn.Given as goal

abbrev pub invariant-loop-turn : goal.invariant-loop-turn
invariant-loop-turn l =
    find (λ turn. nat_lt (turned_back l.number turn) 256) (range_with_len l.turn (16 - l.turn)) ≡ least_turn l.number
