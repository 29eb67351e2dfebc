-- The marks that the loop has passed are those of the start without those on the row.
use Rattle.std.proofs.Common.{◌≡◌, ◌++◌, drop, map, take}
use Rattle.history.specs.Monitor.{unless_on}
use Rattle.history.proofs.plain.unmark.Given as goal

abbrev pub invariant-loop-mark : goal.invariant-loop-mark
invariant-loop-mark l = l.marks ≡ map (unless_on l.row) (take l.mark-index l.initial.marks) ++ drop l.mark-index l.initial.marks
