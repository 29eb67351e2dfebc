-- Thread 1 writes in the class.
use Rattle.std.proofs.Common.{refl}
use Rattle.llsc_base.specs.Memory.{class_of, row_of}
use Rattle.history.specs.Worked.{next_row}
use Rattle.version_rule.proofs.worked.spent_classes.Goals as goal

pub returns-clause-in_flight : goal.returns-clause-in_flight
unfolding class_of row_of
returns-clause-in_flight c = λ spent. spent.idle 1 next_row refl refl
