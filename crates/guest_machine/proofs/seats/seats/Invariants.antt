-- The threads so far.
use Rattle.std.proofs.Common.{◌≡◌, map}
use Rattle.std.specs.List.{range_with_len}
use Rattle.guest_machine.specs.inner.Seats.{first_seat, seat_in}
use Rattle.guest_machine.proofs.seats.seats.Given as goal

abbrev pub invariant-loop-t : goal.invariant-loop-t
invariant-loop-t g l = map (seat_in g.C.Core.machine) l.seats.items ≡ map (first_seat g.C.Core.set l.image l.size) (range_with_len 0 l.t)
