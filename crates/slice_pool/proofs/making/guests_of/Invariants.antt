-- The threads below one have their guests; the pass has those from it up.
use Rattle.std.proofs.Common.{◌≡◌, [], All}
use Rattle.slice_pool.specs.Hands.{downto}
use Rattle.slice_pool.specs.Pools.{IsFreshGuest}
use Rattle.slice_pool.specs.Rule.{last_first}
use Rattle.slice_pool.proofs.Made.{AreFrom}
use Rattle.slice_pool.proofs.making.guests_of.Given as goal

abbrev pub invariant-loop-t : goal.invariant-loop-t
invariant-loop-t g l = record {
  memory : g.M.SharedMemory.home l.first ≡ g.M.SharedMemory.home l.fn.first;
  seen : g.M.SharedMemory.seen l.first ≡ g.M.SharedMemory.seen l.fn.first;
  left : AreFrom l.t (g.M.SharedMemory.origin l.mem).size.threads (g.M.SharedMemory.numbers l.first);
  fresh : All (IsFreshGuest g.M.SharedMemory.home g.M.SharedMemory.numbers g.M.SharedMemory.seen (g.M.SharedMemory.id l.mem) (g.M.SharedMemory.origin l.mem) l.image) l.guests.items;
  numbers : last_first l.guests.items [] ≡ downto l.t;
}
