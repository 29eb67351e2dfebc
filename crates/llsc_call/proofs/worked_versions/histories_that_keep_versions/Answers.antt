-- What has lost has lost to a write, and two writes of a class are more than one.
use Rattle.std.proofs.Common.{◌≡◌, ◌∷◌, [], true, false, arith, refl}
use Rattle.llsc_base.specs.Memory.{class_of, row_of}
use Rattle.history.specs.Cause.{writes_in_class}
use Rattle.history.specs.Steady.{IsSteady}
use Rattle.history.specs.Worked.{small_machine, word}
use Rattle.history.specs.declared.entry.Cause.TheVariants.{Lost}
use Rattle.history.specs.declared.entry.Entry.TheVariants.{Begin, Fail, Watch, Write}
use Rattle.history.proofs.Cuts.{each-more, each-none}
use Rattle.llsc_call.proofs.worked_versions.histories_that_keep_versions.Goals as goal

two_in_the_class : writes_in_class (small_machine 1) 1 (Write 0 word 5 false ∷ Write 1 word 9 false ∷ []) ≡ 2
unfolding row_of class_of
two_in_the_class = refl

pub returns-clause-lost_to_a_write : goal.returns-clause-lost_to_a_write
unfolding class_of row_of
returns-clause-lost_to_a_write c =
    let is = IsSteady (small_machine 1) in
    record {
      few = λ row. omega arith;
      steady =
          each-more is (Watch 0 word ∷ Begin 1 word ∷ []) (Fail 0 word 9 Lost)
          (each-more is (Watch 0 word ∷ []) (Begin 1 word) (each-more is [] (Watch 0 word) (each-none is) tt) tt) refl;
    }

pub returns-clause-lost_to_a_load_exclusive : goal.returns-clause-lost_to_a_load_exclusive
unfolding class_of row_of
returns-clause-lost_to_a_load_exclusive c = λ keeps.
    let wrong : false ≡ true = keeps.steady (Watch 0 word ∷ Watch 1 word ∷ []) (Fail 0 word 9 Lost) [] refl in cc

pub returns-clause-one_write_more : goal.returns-clause-one_write_more
returns-clause-one_write_more c = λ keeps. let most = keeps.few 1 in let two = two_in_the_class in absurd (omega arith)
