use Rattle.std.proofs.Common.{refl}
use Rattle.llsc_base.specs.Memory.{row_of}
use Rattle.history.proofs.worked_marks.marks_that_are_set.Goals as goal

pub returns-clause-marked : goal.returns-clause-marked
unfolding row_of
returns-clause-marked c = refl

pub returns-clause-replaced : goal.returns-clause-replaced
unfolding row_of
returns-clause-replaced c = refl
