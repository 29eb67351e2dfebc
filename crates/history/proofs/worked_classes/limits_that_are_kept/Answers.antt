-- One write counts once at most, and two of a class are more than one.
use Rattle.std.proofs.Common.{◌≡◌, ◌∷◌, [], true, false, arith, refl, inl, inr}
use Rattle.std.proofs.lemmas.Bool.{cases_Bool}
use Rattle.llsc_base.specs.Memory.{class_of, row_of}
use Rattle.history.specs.Cause.{is_write, writes_in_class}
use Rattle.history.specs.Worked.{cell_before, next_row, small_machine, word}
use Rattle.history.specs.declared.entry.Entry.TheVariants.{Write}
use Rattle.history.proofs.worked_classes.limits_that_are_kept.Goals as goal

two_in_a_row : writes_in_class (small_machine 2) 1 (Write 0 word 5 false ∷ Write 1 word 9 true ∷ []) ≡ 2
unfolding row_of class_of
two_in_a_row = refl

two_in_two_rows : writes_in_class (small_machine 2) 0 (Write 1 cell_before 5 false ∷ Write 0 next_row 9 true ∷ []) ≡ 2
unfolding row_of class_of
two_in_two_rows = refl

pub returns-clause-only_begun : goal.returns-clause-only_begun
returns-clause-only_begun c = λ row. omega arith

pub returns-clause-as_many : goal.returns-clause-as_many
returns-clause-as_many c = λ row. elim (cases_Bool (is_write (small_machine 2) row (Write 0 word 5 false))) [
  | inl is ↦ rw is (omega arith)
  | inr isnt ↦ rw isnt (omega arith)
]

pub returns-clause-one_more : goal.returns-clause-one_more
returns-clause-one_more c = λ keeps. let most = keeps 1 in let two = two_in_a_row in absurd (omega arith)

pub returns-clause-in_two_rows : goal.returns-clause-in_two_rows
returns-clause-in_two_rows c = λ keeps. let most = keeps 0 in let two = two_in_two_rows in absurd (omega arith)
