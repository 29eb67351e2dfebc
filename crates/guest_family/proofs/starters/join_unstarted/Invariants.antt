use Rattle.std.proofs.Common.{vec_len}
use Rattle.guest_family.proofs.JoinUnstarted.{HasJoined}
use Rattle.guest_family.proofs.starters.join_unstarted.Given as goal

-- the pass has taken in all but those that are left
abbrev pub invariant-loop-other : goal.invariant-loop-other
invariant-loop-other g l =
    HasJoined g.M.SharedMemory.home g.M.SharedMemory.numbers g.M.SharedMemory.seen (g.M.SharedMemory.id l.mem) l.fn.pass l.fn.spare.thread l.fn.spares.items l.spares.items l.pass

abbrev pub decreases-loop-other : goal.decreases-loop-other
decreases-loop-other g l = vec_len l.spares
