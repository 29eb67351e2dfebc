-- The part may go on, and has gone up to so many steps for each piece at most.
use Rattle.std.proofs.Common.{◌≡◌, ◌≤◌, ◌-◌, ◌*◌, length}
use Rattle.guest_trials.specs.inner.Parts.{MayGoOn}
use Rattle.guest_trials.proofs.tests.pieces.ended.Given as goal

abbrev pub invariant-loop-pieces : goal.invariant-loop-pieces
invariant-loop-pieces g l = record {
  part : MayGoOn g.M.SharedMemory.home g.M.SharedMemory.numbers g.M.SharedMemory.seen (g.M.SharedMemory.id l.mem) (g.M.SharedMemory.origin l.mem) l.upto l.part;
  whole : length l.code.program.bytes ≡ (g.M.SharedMemory.origin l.mem).size.mem;
  upto : l.upto ≤ 7 * l.pieces;
}

abbrev pub decreases-loop-pieces : goal.decreases-loop-pieces
decreases-loop-pieces g l = 100 - l.pieces
