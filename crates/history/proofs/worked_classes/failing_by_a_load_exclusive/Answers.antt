use Rattle.std.proofs.Common.{refl, ◌≡◌, true, false}
use Rattle.llsc_base.specs.Memory.{class_of, row_of}
use Rattle.history.proofs.worked_classes.failing_by_a_load_exclusive.Goals as goal

pub returns-clause-lost : goal.returns-clause-lost
unfolding class_of row_of
returns-clause-lost c = (refl, refl)

pub returns-clause-not_in_another_class : goal.returns-clause-not_in_another_class
unfolding class_of row_of
returns-clause-not_in_another_class c = λ lost. let wrong : false ≡ true = lost.1 in cc
