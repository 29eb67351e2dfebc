-- Thread 0 is marked on row 2.
use Rattle.std.proofs.Common.{refl}
use Rattle.llsc_base.specs.Memory.{row_of}
use Rattle.history.proofs.SmallMemory.{apart_rows}
use Rattle.history.proofs.worked_accesses.accesses_that_may_not_come.Goals as goal

pub returns-clause-marked_elsewhere : goal.returns-clause-marked_elsewhere
unfolding row_of
returns-clause-marked_elsewhere c = λ legal. apart_rows 2 1 refl (legal.1.0.1 refl)
