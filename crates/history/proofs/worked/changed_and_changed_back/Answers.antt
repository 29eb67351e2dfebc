-- After the first write thread 0 is marked nowhere.
use Rattle.std.proofs.Common.{lit<, refl}
use Rattle.llsc_base.specs.Memory.{bytes_of, number_of, row_of}
use Rattle.history.proofs.SmallMemory.{plain, sound_word, unmarked}
use Rattle.history.proofs.worked.changed_and_changed_back.Goals as goal

pub returns-clause-refused : goal.returns-clause-refused
unfolding row_of
returns-clause-refused c = λ legal. unmarked 1 _ refl (legal.1.1.1.0.1 refl)

pub returns-clause-allowed : goal.returns-clause-allowed
unfolding row_of number_of bytes_of
returns-clause-allowed c = (
  (sound_word 0 0 (lit< tt) (lit< tt), refl),
  (
    (sound_word 1 5 (lit< tt) (lit< tt), plain _ _),
    (
      (sound_word 1 0 (lit< tt) (lit< tt), plain _ _),
      (
        sound_word 0 9 (lit< tt) (lit< tt),
        ((sound_word 0 0 (lit< tt) (lit< tt), refl), tt),
      ),
    ),
  ),
)
