use Rattle.std.proofs.Common.{length}
use Rattle.guest_thread.specs.ThreadState.{IsReadyIn}
use Rattle.guest_trials.proofs.tests.guests.ended.Given as goal

abbrev pub invariant-loop-ask : goal.invariant-loop-ask
invariant-loop-ask l = IsReadyIn (length l.image.bytes) l.budget l.guest
