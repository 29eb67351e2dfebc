-- The thread has an entry more.
use Rattle.std.proofs.Common.{◌≡◌, [], ◌∷◌, refl}
use Rattle.history.specs.Worked.{word}
use Rattle.history.specs.declared.entry.Entry.TheVariants.{Clear, Watch}
use Rattle.shared_memory.proofs.worked.what_is_said_of_threads.Goals as goal

pub returns-clause-of_another : goal.returns-clause-of_another
returns-clause-of_another c = λ says. let more : Clear 1 ∷ [] ≡ [] = says 1 refl in cc

pub returns-clause-of_both : goal.returns-clause-of_both
returns-clause-of_both c = λ says. let more : Clear 1 ∷ [] ≡ [] = says 1 refl in cc

pub returns-clause-of_a_mark : goal.returns-clause-of_a_mark
returns-clause-of_a_mark c = λ says. let more : Clear 0 ∷ Watch 0 word ∷ [] ≡ Clear 0 ∷ [] = says 0 refl in cc
