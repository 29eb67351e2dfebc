use Rattle.std.proofs.Common.{refl}
use Rattle.llsc_base.specs.Memory.{class_of, row_of}
use Rattle.history.proofs.worked_classes.reservations_that_stay.Goals as goal

pub returns-clause-of_another : goal.returns-clause-of_another
unfolding class_of row_of
returns-clause-of_another c = refl

pub returns-clause-written_by_another : goal.returns-clause-written_by_another
unfolding class_of row_of
returns-clause-written_by_another c = refl

pub returns-clause-own : goal.returns-clause-own
unfolding class_of row_of
returns-clause-own c = refl
