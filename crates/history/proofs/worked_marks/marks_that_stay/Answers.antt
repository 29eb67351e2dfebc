use Rattle.std.proofs.Common.{refl}
use Rattle.llsc_base.specs.Memory.{row_of}
use Rattle.history.proofs.worked_marks.marks_that_stay.Goals as goal

pub returns-clause-cleared_by_another : goal.returns-clause-cleared_by_another
unfolding row_of
returns-clause-cleared_by_another c = refl

pub returns-clause-failed_by_another : goal.returns-clause-failed_by_another
unfolding row_of
returns-clause-failed_by_another c = refl

pub returns-clause-written_elsewhere : goal.returns-clause-written_elsewhere
unfolding row_of
returns-clause-written_elsewhere c = refl

pub returns-clause-loaded : goal.returns-clause-loaded
unfolding row_of
returns-clause-loaded c = refl

pub returns-clause-begun : goal.returns-clause-begun
unfolding row_of
returns-clause-begun c = refl
