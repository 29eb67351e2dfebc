use Rattle.std.proofs.Common.{refl}
use Rattle.llsc_base.specs.Memory.{row_of}
use Rattle.history.proofs.worked_marks.marks_that_end.Goals as goal

pub returns-clause-overwritten : goal.returns-clause-overwritten
unfolding row_of
returns-clause-overwritten c = refl

pub returns-clause-taken : goal.returns-clause-taken
unfolding row_of
returns-clause-taken c = refl
