use Rattle.std.proofs.Common.{◌≡◌, true, false, refl}
use Rattle.llsc_base.specs.Memory.{row_of}
use Rattle.run_checker.proofs.worked.marks_that_are_lacking.Goals as goal

pub returns-clause-marked_elsewhere : goal.returns-clause-marked_elsewhere
unfolding row_of
returns-clause-marked_elsewhere c = (refl, refl)

pub returns-clause-marked_beside : goal.returns-clause-marked_beside
unfolding row_of
returns-clause-marked_beside c = λ lacks. let wrong : true ≡ false = lacks.1 in cc

pub returns-clause-wider_row : goal.returns-clause-wider_row
unfolding row_of
returns-clause-wider_row c = λ lacks. let wrong : true ≡ false = lacks.1 in cc
