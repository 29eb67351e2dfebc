-- The last threads' ends, whose seats are no longer there.
use Rattle.std.proofs.Common.{◌≡◌, ◌≤◌, take, drop, length}
use Rattle.guest_machine.specs.inner.Seats.{AreEndsOfSeats}
use Rattle.guest_machine.proofs.ends.ends_of.Given as goal

abbrev pub invariant-loop-seat : goal.invariant-loop-seat
invariant-loop-seat g l = record {
  front : l.seats.items ≡ take (length l.seats.items) l.fn.seats.items;
  inside : length l.seats.items ≤ length l.fn.seats.items;
  ends : AreEndsOfSeats l.accesses (length l.seats.items) (drop (length l.seats.items) l.fn.seats.items) l.ends.items;
}

abbrev pub decreases-loop-seat : goal.decreases-loop-seat
decreases-loop-seat g l = length l.seats.items
