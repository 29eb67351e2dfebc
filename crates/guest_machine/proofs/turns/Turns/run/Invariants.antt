-- The turns so far have led here, and each leads nearer to the end.
use Rattle.guest_machine.specs.inner.Seats.{AreUnderWay, left_of}
use Rattle.guest_machine.proofs.turns.Turns.run.Given as goal

abbrev pub invariant-loop-self : goal.invariant-loop-self
invariant-loop-self g l = AreUnderWay g.C.Core.set g.C.Core.machine l.plan.image.now l.plan.size.now l.plan.seed l.plan.budget l.self

abbrev pub decreases-loop-self : goal.decreases-loop-self
decreases-loop-self g l = left_of l.self
