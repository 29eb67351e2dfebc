-- The word has the value 5 after it was stored.
use Rattle.std.proofs.Common.{lit<, refl}
use Rattle.llsc_base.specs.Memory.{bytes_of, number_of, row_of}
use Rattle.history.proofs.SmallMemory.{apart, plain, sound_word}
use Rattle.history.proofs.worked_accesses.loaded_values.Goals as goal

pub returns-clause-stored : goal.returns-clause-stored
unfolding row_of number_of bytes_of
returns-clause-stored c = ((sound_word 1 5 (lit< tt) (lit< tt), plain _ _), ((sound_word 0 5 (lit< tt) (lit< tt), refl), tt))

pub returns-clause-stale : goal.returns-clause-stale
unfolding row_of number_of bytes_of
returns-clause-stale c = λ legal. apart 0 5 refl legal.1.0.1

pub returns-clause-stale_exclusive : goal.returns-clause-stale_exclusive
unfolding row_of number_of bytes_of
returns-clause-stale_exclusive c = λ legal. apart 0 5 refl legal.1.0.1
