use Rattle.std.proofs.Common.{◌≡◌, true, false, refl}
use Rattle.llsc_base.specs.Memory.{row_of}
use Rattle.guest_machine.proofs.worked_alone.failures_without_a_mark.Goals as goal

pub returns-clause-marked_elsewhere : goal.returns-clause-marked_elsewhere
unfolding row_of
returns-clause-marked_elsewhere c = refl

pub returns-clause-row_before : goal.returns-clause-row_before
unfolding row_of
returns-clause-row_before c = refl

pub returns-clause-marked_beside : goal.returns-clause-marked_beside
unfolding row_of
returns-clause-marked_beside c = λ apart_rows. let wrong : true ≡ false = apart_rows in cc

pub returns-clause-wider_row : goal.returns-clause-wider_row
unfolding row_of
returns-clause-wider_row c = λ apart_rows. let wrong : true ≡ false = apart_rows in cc
