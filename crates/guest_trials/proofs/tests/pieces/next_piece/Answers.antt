-- A guest may go on from where it pauses, and from behind a call that was answered.
use Rattle.std.proofs.Common.{◌≤◌, ◌+◌, arith}
use Rattle.guest_trials.proofs.tests.pieces.next_piece.Goals as goal

pub returns-in-Pause-clause-part : goal.returns-in-Pause-clause-part
returns-in-Pause-clause-part g c =
    let single = c.requires.part.single in
    let piece = c.in-Pause.ensures.piece single.0 single.1 in
    let steps = piece.stands.steps in
    record {
      memory = piece.memory;
      single = (single.0, piece.single, piece.may_act);
      between = piece.stands.between;
      few = piece.stands.few;
      within = omega (arith, steps);
    }

pub answer-requires : goal.answer-requires
answer-requires g c =
    let single = c.requires.part.single in
    (c.in-Start.ensures.piece single.0 single.1).stands.calling
