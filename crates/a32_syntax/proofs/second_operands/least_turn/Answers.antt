use Rattle.std.proofs.Common.{rules, ◌≤◌, sym, ◌∙◌}
use Rattle.a32_syntax.specs.Meaning.{turned_back}
use Rattle.a32_syntax.proofs.Turns.{least_later}
use Rattle.a32_syntax.proofs.second_operands.least_turn.Goals as goal

pub loop-turn-preserved : goal.loop-turn-preserved
loop-turn-preserved c =
    let large : 256 ≤ turned_back c.args.number c.loop-turn.turn = search rules in
    sym (least_later c.args.number c.loop-turn.turn c.loop-turn-test.true large) ∙ c.loop-turn.invariant
