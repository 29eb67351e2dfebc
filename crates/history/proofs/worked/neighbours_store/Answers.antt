-- A store to the row ends the mark.
use Rattle.std.proofs.Common.{lit<, refl}
use Rattle.llsc_base.specs.Memory.{bytes_of, number_of, row_of}
use Rattle.history.proofs.SmallMemory.{plain, sound_next_row, sound_word, unmarked}
use Rattle.history.proofs.worked.neighbours_store.Goals as goal

pub returns-clause-in_the_row : goal.returns-clause-in_the_row
unfolding row_of
returns-clause-in_the_row c = λ legal. unmarked 1 _ refl (legal.1.1.0.1 refl)

pub returns-clause-in_the_next_row : goal.returns-clause-in_the_next_row
unfolding row_of number_of bytes_of
returns-clause-in_the_next_row c = (
  (sound_word 0 0 (lit< tt) (lit< tt), refl),
  (
    (sound_next_row 1 (lit< tt), plain _ _),
    ((sound_word 0 9 (lit< tt) (lit< tt), λ _. refl), tt),
  ),
)
