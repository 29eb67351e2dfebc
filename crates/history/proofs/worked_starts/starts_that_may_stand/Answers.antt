use Rattle.std.proofs.Common.{◌<◌, refl, arith, lit<}
use Rattle.history.proofs.SmallMemory.{apart}
use Rattle.history.proofs.worked_starts.starts_that_may_stand.Goals as goal

pub returns-clause-zeroth : goal.returns-clause-zeroth
returns-clause-zeroth c = (lit< tt, lit< tt, refl)

pub returns-clause-next : goal.returns-clause-next
returns-clause-next c = (lit< tt, lit< tt, refl)

pub returns-clause-out_of_order : goal.returns-clause-out_of_order
returns-clause-out_of_order c = λ may. apart 5 4 refl may.2

pub returns-clause-of_another : goal.returns-clause-of_another
returns-clause-of_another c = λ may. apart 2 4 refl may.2

pub returns-clause-one_too_many : goal.returns-clause-one_too_many
returns-clause-one_too_many c = λ may. let none : 1 < 1 = may.1 in omega arith

pub returns-clause-by_a_child : goal.returns-clause-by_a_child
returns-clause-by_a_child c = λ may. let none : 1 < 1 = may.0 in omega arith
