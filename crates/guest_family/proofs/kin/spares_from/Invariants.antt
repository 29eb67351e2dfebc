-- Those from the first number up to one have what they are to run with; the pass has those above them, and the others that it had.
use Rattle.std.proofs.Common.{◌≡◌, ◌+◌, ℕ, vec_len}
use Rattle.std.specs.List.{range_with_len}
use Rattle.guest_family.specs.Kin.{AreSpares, spares_of}
use Rattle.guest_family.specs.inner.Left.{AreLeft}
use Rattle.guest_family.proofs.kin.spares_from.Given as goal

abbrev pub invariant-loop-thread : goal.invariant-loop-thread
invariant-loop-thread g l = record {
  memory : g.M.SharedMemory.home l.first ≡ g.M.SharedMemory.home l.fn.first;
  seen : g.M.SharedMemory.seen l.first ≡ g.M.SharedMemory.seen l.fn.first;
  left : (low : ℕ) → AreLeft (g.M.SharedMemory.origin l.mem).first (g.M.SharedMemory.origin l.mem).size.threads low l.fn.from (g.M.SharedMemory.numbers l.fn.first)
      → AreLeft (g.M.SharedMemory.origin l.mem).first (g.M.SharedMemory.origin l.mem).size.threads low l.thread (g.M.SharedMemory.numbers l.first);
  spares : AreSpares g.M.SharedMemory.home g.M.SharedMemory.numbers g.M.SharedMemory.seen (g.M.SharedMemory.id l.mem) l.image l.spares.items;
  len : l.fn.from + vec_len l.spares ≡ l.thread;
  threads : spares_of l.spares.items ≡ range_with_len l.fn.from (vec_len l.spares);
}
