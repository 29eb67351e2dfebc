use Rattle.std.proofs.Common.{refl}
use Rattle.llsc_base.specs.Memory.{class_of, row_of}
use Rattle.history.proofs.worked_classes.classes_of_rows.Goals as goal

pub returns-clause-one_class : goal.returns-clause-one_class
unfolding class_of row_of
returns-clause-one_class c = refl

pub returns-clause-next_class : goal.returns-clause-next_class
unfolding class_of row_of
returns-clause-next_class c = refl

pub returns-clause-again : goal.returns-clause-again
unfolding class_of row_of
returns-clause-again c = refl

pub returns-clause-between : goal.returns-clause-between
unfolding class_of row_of
returns-clause-between c = refl
