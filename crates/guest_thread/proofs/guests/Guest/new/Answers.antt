use Rattle.std.proofs.Common.{[], sym, subst}
use Rattle.guest_calls.specs.Run.{Reaches, begins}
use Rattle.guest_thread.proofs.guests.Guest.new.Goals as goal

pub returns-clause-comes : goal.returns-clause-comes
returns-clause-comes g c = λ empty program budget.
    subst (λ o. Reaches g.C.Core.set program budget (g.C.Core.machine c.args.cpu) [] (g.C.Core.machine c.args.cpu) 0 o) (sym empty) begins
