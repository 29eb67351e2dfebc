use Rattle.std.proofs.Common.{◌-◌}
use Rattle.guest_thread.specs.ThreadState.{thread_in}
use Rattle.guest_thread.proofs.Loops.{IsOnItsWay}
use Rattle.guest_thread.proofs.guests.Guest.next.Given as goal

abbrev pub invariant-loop-self : goal.invariant-loop-self
invariant-loop-self g l = IsOnItsWay g.C.Core.set l.image l.budget (thread_in g.C.Core.machine l.fn.self) (thread_in g.C.Core.machine l.self)

-- each turn that doesn't end the loop is one step
abbrev pub decreases-loop-self : goal.decreases-loop-self
decreases-loop-self g l = l.budget - l.self.steps
