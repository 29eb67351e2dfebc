use Rattle.std.proofs.Common.{◌≡◌, ℕ, ◌<◌, ◌≤◌, Option, length, get_or}
use Rattle.run_explainer.specs.inner.Steps.{reservation_after}
use Rattle.run_explainer.specs.declared.reservations.Reservation.{Reservation}
use Rattle.run_explainer.proofs.reservations.see_write.Given as goal

-- the event was taken in to what is known of the threads so far, and of the others the same is known
abbrev pub invariant-loop-thread : goal.invariant-loop-thread
invariant-loop-thread l = record {
  long : length l.reservations ≡ length l.fn.reservations;
  done : (k : ℕ) (other : Option Reservation) → k < l.thread → get_or l.reservations k other ≡ reservation_after l.granule k (get_or l.fn.reservations k other) l.event;
  left : (k : ℕ) (other : Option Reservation) → l.thread ≤ k → get_or l.reservations k other ≡ get_or l.fn.reservations k other;
}
