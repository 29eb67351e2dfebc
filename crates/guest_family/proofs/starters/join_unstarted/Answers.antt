use Rattle.guest_family.proofs.JoinUnstarted.{another_joined, last_spare}
use Rattle.guest_family.proofs.starters.join_unstarted.Goals as goal

pub join-requires-in-Some : goal.join-requires-in-Some
join-requires-in-Some g c = record {
  memory = (
    c.loop-other.invariant.memory,
    last_spare g.M.SharedMemory.home g.M.SharedMemory.numbers g.M.SharedMemory.seen (g.M.SharedMemory.id c.args.mem.now) c.loop-other.invariant.program c.loop-other.spares.items
        c.pop.new.self.items c.in-Some.other c.in-Some.ensures.items c.loop-other.invariant.spares,
  );
}

pub loop-other-preserved : goal.loop-other-preserved
loop-other-preserved g c =
    another_joined g.M.SharedMemory.home g.M.SharedMemory.numbers g.M.SharedMemory.seen (g.M.SharedMemory.id c.args.mem.now) c.args.pass c.loop-other.pass c.join-in-Some.new.pass c.args.spare.thread
    c.args.spares.items c.loop-other.spares.items c.pop.new.self.items c.in-Some.other c.loop-other.invariant c.in-Some.ensures.items c.join-in-Some.ensures.memory c.join-in-Some.ensures.numbers
    c.join-in-Some.ensures.fronts.0 c.join-in-Some.ensures.mine
