use Rattle.std.proofs.Common.{refl}
use Rattle.llsc_base.specs.Memory.{class_of, row_of}
use Rattle.history.proofs.worked_classes.reservations_that_are_taken.Goals as goal

pub returns-clause-watched : goal.returns-clause-watched
unfolding class_of row_of
returns-clause-watched c = refl

pub returns-clause-replaced : goal.returns-clause-replaced
unfolding class_of row_of
returns-clause-replaced c = refl
