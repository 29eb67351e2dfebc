use Rattle.std.proofs.Common.{refl}
use Rattle.llsc_base.specs.Memory.{class_of, row_of}
use Rattle.history.proofs.worked.own_write_in_the_class.Goals as goal

pub returns-clause-in_the_class : goal.returns-clause-in_the_class
unfolding class_of row_of
returns-clause-in_the_class c = refl

pub returns-clause-in_another_class : goal.returns-clause-in_another_class
unfolding class_of row_of
returns-clause-in_another_class c = refl
