use Rattle.std.proofs.Common.{◌≤◌, [], All, length, map, refl, sym, subst}
use Rattle.history.specs.Accesses.{history_of}
use Rattle.run_record.specs.Limits.{IsAccess, most_accesses}
use Rattle.guest_machine.specs.Turns.{Takes}
use Rattle.guest_machine.specs.inner.Seats.{AreEndsOfSeats, HaveTurned, seat_in}
use Rattle.guest_thread.specs.Ends.{AreEnds}
use Rattle.guest_machine.proofs.Ending.{are_ends}
use Rattle.guest_machine.proofs.Seen.{all_stopped}
use Rattle.guest_machine.proofs.traces.trace.Goals as goal

pub ends_of-requires-clause-stopped : goal.ends_of-requires-clause-stopped
ends_of-requires-clause-stopped g c κs within =
    let turns = c.run.new.self in
    let over = c.in_ok-run.ensures.over in
    all_stopped g.C.Core.set g.C.Core.machine c.args.image.now c.args.size.now c.args.seed c.args.budget turns.number turns.seats.items turns.memory turns.accesses.items
    (subst (λ l. HaveTurned g.C.Core.set c.args.image.now c.args.size.now c.args.seed c.args.budget turns.number l (map (seat_in g.C.Core.machine) turns.seats.items) turns.memory turns.accesses.items) over.1 over.0)

pub returns-clause-run : goal.returns-clause-run
returns-clause-run g c =
    let over = c.in_ok-run.ensures.over in
    let turned = over.0 in
    let turns = c.run.new.self in
    let accesses = sym c.new-2.ensures in
    let threads = c.threads-threads.ensures in
    record {
      threads = threads.number;
      budget_is = refl;
      granule_is = c.granule.ensures.number;
      trace = (
        turns.number,
        subst (Takes g.C.Core.set c.args.image.now c.args.size.now c.args.seed c.args.budget turns.number []) accesses
            (subst (λ l. Takes g.C.Core.set c.args.image.now c.args.size.now c.args.seed c.args.budget turns.number l turns.accesses.items) over.1 turned.takes),
      );
      sound = record {
        numbers = record { thread = threads.least; few = threads.most; rows = c.granule.ensures.most; step = c.requires.some; bounded = c.requires.budget };
        count = subst (λ l. length l ≤ most_accesses) accesses turned.few;
        accesses = subst (All (IsAccess c.threads-threads.result)) accesses (subst (λ n. All (IsAccess n) turns.accesses.items) (sym threads.number) turned.sound);
      };
    }

pub returns-clause-ends : goal.returns-clause-ends
returns-clause-ends g c =
    let ends = c.in-Ok-ends_of.ends.items in
    subst (λ a. AreEnds g.C.Core.set c.args.image.now c.args.size.now c.args.budget (history_of a) ends) (sym c.new-2.ensures)
    (are_ends g.C.Core.set g.C.Core.machine c.args.image.now c.args.size.now c.args.seed c.args.budget _ _ _ _ _ ends c.in_ok-run.ensures.over.0
    (subst (λ a. AreEndsOfSeats a 0 c.run.new.self.seats.items ends) c.deref.ensures.value c.in-Ok-ends_of.ensures))
