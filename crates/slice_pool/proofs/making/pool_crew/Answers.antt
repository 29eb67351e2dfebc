use Rattle.std.proofs.Common.{All, ap, arith, rules, subst, ◌∙◌, ◌≡◌}
use Rattle.slice_pool.specs.AtWork.{IsFree}
use Rattle.slice_pool.proofs.Moves.{begins}
use Rattle.slice_pool.proofs.making.pool_crew.Goals as goal

pub ruled-requires-clause-rule : goal.ruled-requires-clause-rule
ruled-requires-clause-rule g c = begins g.M.SharedMemory.home g.M.SharedMemory.numbers g.M.SharedMemory.seen

pub returns : goal.returns
returns g c =
    let count = (g.M.SharedMemory.origin c.args.mem.now).size.threads in
    let number : c.threads-count.result ≡ count = c.threads-count.ensures.number ∙ ap (λ s. s.threads) c.size-size.ensures in
    let workers = c.requires.workers.1 in
    let desks = c.in_ok-desks.ensures.len in
    let seats = c.in_ok-seats.ensures.capacity in
    let ends = c.in_ok-ends.ensures.capacity in
    let turns = c.in_ok-turns.ensures.capacity in
    record {
      ready = record {
        begin = c.requires.begin;
        guests = c.in_ok-guests.ensures.fresh;
        numbers_are = c.in_ok-guests.ensures.numbers;
        queue = search rules;
        seat = search rules;
        desks = subst (λ n. All (IsFree c.args.image.now n) c.in_ok-desks.desks.items) number c.in_ok-desks.ensures.free;
        few = omega (arith, workers, desks);
        empty = (c.in_ok-seats.ensures.items, c.in_ok-seats.ensures.len);
        room = omega (arith, desks, seats);
        own = subst (λ n. IsFree c.args.image.now n c.in_ok-own.own) number c.in_ok-own.ensures;
        no_ends = (c.in_ok-ends.ensures.items, c.in_ok-ends.ensures.len, c.in_ok-turns.ensures.items, c.in_ok-turns.ensures.len);
        ends_room = (omega (arith, number, ends), omega (arith, number, turns));
      };
      workers = desks;
      places = let capacity = c.in_ok-line.ensures.0 in omega (arith, number, capacity);
    }
