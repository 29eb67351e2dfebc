use Rattle.std.proofs.Common.{◌≤◌, refl, arith}
use Rattle.memory_handle.proofs.worked.numbers_of_handles.Goals as goal

pub returns-clause-one_less : goal.returns-clause-one_less
returns-clause-one_less c = λ are. let wrong : 1 ≤ 0 = (are.only 0 refl).0 in omega (arith, wrong)
