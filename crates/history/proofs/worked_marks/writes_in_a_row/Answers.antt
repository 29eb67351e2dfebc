use Rattle.std.proofs.Common.{refl}
use Rattle.llsc_base.specs.Memory.{row_of}
use Rattle.history.proofs.worked_marks.writes_in_a_row.Goals as goal

pub returns-clause-plain : goal.returns-clause-plain
unfolding row_of
returns-clause-plain c = refl

pub returns-clause-exclusive : goal.returns-clause-exclusive
unfolding row_of
returns-clause-exclusive c = refl

pub returns-clause-of_another_row : goal.returns-clause-of_another_row
unfolding row_of
returns-clause-of_another_row c = refl
