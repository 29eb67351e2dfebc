-- The numbers below 2 have 0 too.
use Rattle.std.proofs.Common.{refl}
use Rattle.history.proofs.SmallMemory.{apart}
use Rattle.shared_memory.proofs.worked.numbers_of_a_pass.Goals as goal

pub returns-clause-one_of_several : goal.returns-clause-one_of_several
returns-clause-one_of_several c = λ single. apart 0 1 refl (single.only 0 refl)
