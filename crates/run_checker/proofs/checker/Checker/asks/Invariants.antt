use Rattle.std.proofs.Common.{◌≡◌, ℕ, ◌≤◌, List, length, get_or}
use Rattle.llsc_base.specs.Sizes.{Numbers}
use Rattle.history.specs.declared.entry.Access.{Access}
use Rattle.guest_thread.specs.ThreadState.{ThreadStateOf}
use Rattle.run_checker.specs.inner.Positions.{AreBrought, AllHaveEnded}
use Rattle.run_checker.proofs.checker.Checker.asks.Given as goal

-- the threads from here on are as they were, and those before have stopped
abbrev pub invariant-loop-guest : goal.invariant-loop-guest
invariant-loop-guest g l = record {
  long : length l.guest-items ≡ length l.fn.self.guests.items;
  same : (k : ℕ) (d : ThreadStateOf g.row.C.Denot) → l.guest-index ≤ k → get_or l.guest-items k d ≡ get_or l.fn.self.guests.items k d;
  stopped : (size : Numbers) (early : List Access) → AreBrought g.C.Core.set g.C.Core.machine l.image size l.budget early l.fn.self → AllHaveEnded g.C.Core.set l.image size l.budget early l.guest-index;
}
