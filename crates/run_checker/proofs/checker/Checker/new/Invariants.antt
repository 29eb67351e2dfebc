use Rattle.std.proofs.Common.{◌≡◌, ℕ, [], All, length}
use Rattle.guest_thread.specs.ThreadState.{IsReadyIn, thread_in}
use Rattle.guest_thread.specs.Start.{thread_start}
use Rattle.guest_thread.specs.Under.{HasCome}
use Rattle.run_checker.proofs.EachThread.{EachAt}
use Rattle.run_checker.proofs.checker.Checker.new.Given as goal

-- there are as many threads as were counted, each of them at its start
abbrev pub invariant-loop-t : goal.invariant-loop-t
invariant-loop-t g l = record {
  count : length l.guests.items ≡ l.t;
  ready : (mem budget : ℕ) → All (λ guest. IsReadyIn mem budget (thread_in g.C.Core.machine guest)) l.guests.items;
  start : (budget : ℕ) → EachAt (λ t guest. HasCome g.C.Core.set l.image budget (thread_start g.C.Core.set l.image l.size l.size.threads t) [] (thread_in g.C.Core.machine guest)) l.guests.items;
}
