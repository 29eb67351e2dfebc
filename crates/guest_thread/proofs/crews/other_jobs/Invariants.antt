-- The threads from 1 up to one have their jobs; the pass has those above them, and 0.
use Rattle.std.proofs.Common.{◌≡◌, ◌+◌, vec_len}
use Rattle.std.specs.List.{range_with_len}
use Rattle.guest_thread.specs.Crews.{AreFresh, HaveSeen, threads_of}
use Rattle.guest_thread.proofs.Prepared.{AreLeft}
use Rattle.guest_thread.proofs.crews.other_jobs.Given as goal

abbrev pub invariant-loop-t : goal.invariant-loop-t
invariant-loop-t g l = record {
  memory : g.M.SharedMemory.home l.first ≡ g.M.SharedMemory.home l.fn.first;
  seen : g.M.SharedMemory.seen l.first ≡ g.M.SharedMemory.seen l.fn.first;
  left : AreLeft l.count l.t (g.M.SharedMemory.numbers l.first);
  fresh : AreFresh g.C.Core.set g.C.Core.machine g.M.SharedMemory.home g.M.SharedMemory.numbers g.M.SharedMemory.seen (g.M.SharedMemory.id l.mem) (g.M.SharedMemory.origin l.mem) l.image l.jobs.items;
  unseen : HaveSeen g.M.SharedMemory.seen (g.M.SharedMemory.seen l.fn.first) l.jobs.items;
  len : vec_len l.jobs + 1 ≡ l.t;
  threads : threads_of l.jobs.items ≡ range_with_len 1 (vec_len l.jobs);
}
