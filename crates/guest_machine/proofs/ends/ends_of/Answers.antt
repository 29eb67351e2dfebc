use Rattle.std.proofs.Common.{◌≡◌, ◌<◌, ◌≤◌, IsSome, length, sym, subst, arith}
use Rattle.guest_machine.specs.inner.Seats.{AreEndsOfSeats, IsEndOfSeat}
use Rattle.guest_machine.proofs.Ending.{taken, one_more}
use Rattle.guest_machine.proofs.ends.ends_of.Goals as goal

pub end_of-requires-clause-stopped : goal.end_of-requires-clause-stopped
end_of-requires-clause-stopped g c κs within =
    let is = taken c.args.seats.items c.loop-seat.seats.items c.pop.new.self.items c.in-Some.seat c.loop-seat.invariant.front c.in-Some.ensures.items in
    let inside : length c.pop.new.self.items < length c.args.seats.items = omega (arith, is.next, c.loop-seat.invariant.inside) in
    subst (λ s. IsSome s.stop) (sym is.read) (c.requires.stopped (length c.pop.new.self.items) c.in-Some.seat inside)

pub loop-seat-preserved : goal.loop-seat-preserved
loop-seat-preserved g c =
    let is = taken c.args.seats.items c.loop-seat.seats.items c.pop.new.self.items c.in-Some.seat c.loop-seat.invariant.front c.in-Some.ensures.items in
    let inside : length c.pop.new.self.items ≤ length c.args.seats.items = omega (arith, is.next, c.loop-seat.invariant.inside) in
    let number : c.len-in-Some.result ≡ length c.pop.new.self.items = omega (arith, c.len-in-Some.ensures, c.pop.new.self.ok.0) in
    let here : IsEndOfSeat c.args.accesses.now (length c.pop.new.self.items) c.in-Some.seat c.end_of.result =
    subst (λ n. IsEndOfSeat c.args.accesses.now n c.in-Some.seat c.end_of.result) number c.end_of.ensures in
    record {
      front = is.front;
      inside = inside;
      ends = subst (AreEndsOfSeats c.args.accesses.now (length c.pop.new.self.items) _) (sym c.in_ok-insert.ensures.items)
          (one_more c.args.accesses.now (length c.loop-seat.seats.items) (length c.pop.new.self.items) c.args.seats.items c.in-Some.seat c.end_of.result c.loop-seat.ends.items
          is.next c.loop-seat.invariant.inside is.read here c.loop-seat.invariant.ends);
    }
