use Rattle.std.proofs.Common.{◌≡◌, true, false, [], ◌∷◌, refl}
use Rattle.llsc_base.specs.Memory.{class_of, row_of}
use Rattle.history.specs.Steady.{IsSteady}
use Rattle.history.specs.Worked.{small_machine, word}
use Rattle.history.specs.declared.entry.Cause.TheVariants.{Lost}
use Rattle.history.specs.declared.entry.Entry.TheVariants.{Fail, Watch, Begin}
use Rattle.history.proofs.Cuts.{each-more, each-none}
use Rattle.history.proofs.worked_classes.losses_that_are_steady.Goals as goal

pub returns-clause-by_a_write : goal.returns-clause-by_a_write
unfolding class_of row_of
returns-clause-by_a_write c = refl

pub returns-clause-by_a_load_exclusive : goal.returns-clause-by_a_load_exclusive
unfolding class_of row_of
returns-clause-by_a_load_exclusive c = λ steady. let wrong : false ≡ true = steady in cc

pub returns-clause-before_its_watch : goal.returns-clause-before_its_watch
unfolding class_of row_of
returns-clause-before_its_watch c = λ steady. let wrong : false ≡ true = steady in cc

pub returns-clause-by_its_own : goal.returns-clause-by_its_own
unfolding class_of row_of
returns-clause-by_its_own c = λ steady. let wrong : false ≡ true = steady in cc

pub returns-clause-in_another_class : goal.returns-clause-in_another_class
unfolding class_of row_of
returns-clause-in_another_class c = λ steady. let wrong : false ≡ true = steady in cc

pub returns-clause-has_its_cause : goal.returns-clause-has_its_cause
unfolding class_of row_of
returns-clause-has_its_cause c = (refl, refl)

pub returns-clause-in_a_history : goal.returns-clause-in_a_history
unfolding class_of row_of
returns-clause-in_a_history c =
    let is = IsSteady (small_machine 1) in
    each-more is (Watch 0 word ∷ Begin 1 word ∷ []) (Fail 0 word 9 Lost)
    (each-more is (Watch 0 word ∷ []) (Begin 1 word) (each-more is [] (Watch 0 word) (each-none is) tt) tt) refl

pub returns-clause-not_in_a_history : goal.returns-clause-not_in_a_history
unfolding class_of row_of
returns-clause-not_in_a_history c = λ steady.
    let wrong : false ≡ true = steady (Watch 0 word ∷ Watch 1 word ∷ []) (Fail 0 word 9 Lost) [] refl in cc
