-- The histories' parts, one by one.
use Rattle.std.proofs.Common.{◌≡◌, None, Some, [], lit<, refl}
use Rattle.llsc_base.specs.Memory.{bytes_of, number_of, row_of}
use Rattle.history.specs.Worked.{small_machine, word}
use Rattle.history.specs.declared.entry.Entry.TheVariants.{Fail}
use Rattle.history.specs.declared.entry.Cause.TheVariants.{Lost}
use Rattle.history.proofs.SmallHistories.{pair, pair_operations, quiet_causes, not_begun}
use Rattle.history.proofs.SmallMemory.{sound_word, unmarked}
use Rattle.history.proofs.worked.legal_histories.Goals as goal

pub returns-clause-legal : goal.returns-clause-legal
unfolding row_of number_of bytes_of
returns-clause-legal c = record {
  accesses = ((sound_word 0 0 (lit< tt) (lit< tt), refl), ((sound_word 0 9 (lit< tt) (lit< tt), λ ex. refl), tt));
  operations = pair_operations;
  causes = quiet_causes (small_machine 1) pair refl;
}

pub returns-clause-overtaken : goal.returns-clause-overtaken
unfolding row_of
returns-clause-overtaken c = λ legal. unmarked 1 _ refl (legal.accesses.1.1.0.1 refl)

pub returns-clause-not_begun : goal.returns-clause-not_begun
returns-clause-not_begun c = λ legal.
    let whole = (legal.operations 0).finished in
    not_begun 0 word 9 _ _ whole.operations whole.are

pub returns-clause-causeless : goal.returns-clause-causeless
returns-clause-causeless c = λ legal.
    let lost = legal.causes [] (Fail 0 word 9 Lost) [] refl in
    let none : None ≡ Some (row_of 0 word) = lost.0 in cc
