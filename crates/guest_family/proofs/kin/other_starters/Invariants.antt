-- The first threads from 1 up to one have what they run with; the pass has those above them, what those may start, and 0.
use Rattle.std.proofs.Common.{◌≡◌, ◌+◌, ◌*◌, vec_len}
use Rattle.std.specs.List.{range_with_len}
use Rattle.guest_family.specs.Kin.{AreStarters, heads_of}
use Rattle.guest_family.specs.inner.Left.{AreLeft}
use Rattle.guest_family.proofs.kin.other_starters.Given as goal

abbrev pub invariant-loop-t : goal.invariant-loop-t
invariant-loop-t g l = record {
  memory : g.M.SharedMemory.home l.first ≡ g.M.SharedMemory.home l.fn.first;
  seen : g.M.SharedMemory.seen l.first ≡ g.M.SharedMemory.seen l.fn.first;
  left : AreLeft (g.M.SharedMemory.origin l.mem).first (g.M.SharedMemory.origin l.mem).size.threads l.t (l.heads + l.t * l.spare) (g.M.SharedMemory.numbers l.first);
  starters : AreStarters g.M.SharedMemory.home g.M.SharedMemory.numbers g.M.SharedMemory.seen (g.M.SharedMemory.id l.mem) (g.M.SharedMemory.origin l.mem) l.image l.starters.items;
  len : vec_len l.starters + 1 ≡ l.t;
  threads : heads_of l.starters.items ≡ range_with_len 1 (vec_len l.starters);
}
