use Rattle.std.proofs.Common.{false, subst}
use Rattle.guest_calls.specs.Run.{first_point}
use Rattle.guest_thread.specs.ThreadState.{thread_in}
use Rattle.guest_thread.specs.inner.Under.{ComesToEvent}
use Rattle.guest_thread.proofs.guests.Guest.turn.Goals as goal

pub returns-clause-comes : goal.returns-clause-comes
returns-clause-comes g c = λ budget start pairs come less.
    subst (λ event. ComesToEvent g.C.Core.set false c.args.image.now budget (first_point start) pairs event (thread_in g.C.Core.machine c.turn_or_start.new.self)) c.in-Turns.is
    (c.in-Some.ensures.comes budget (first_point start) pairs come less)
