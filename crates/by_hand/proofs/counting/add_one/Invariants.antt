use Rattle.std.proofs.Common.{◌≡◌, ℕ}
use Rattle.shared_memory.specs.Seen.{IsSingle}
use Rattle.llsc_base.specs.declared.access.Size.TheVariants.{B8}
use Rattle.by_hand.specs.inner.Counting.{HasAdded, accesses_by}
use Rattle.by_hand.proofs.counting.add_one.Given as goal

abbrev pub invariant-loop : goal.invariant-loop
invariant-loop g l = record {
  home : g.M.SharedMemory.home l.pass ≡ g.M.SharedMemory.home l.fn.pass;
  numbers : g.M.SharedMemory.numbers l.pass ≡ g.M.SharedMemory.numbers l.fn.pass;
  added : (t times : ℕ) → IsSingle t (g.M.SharedMemory.numbers l.fn.pass)
      → HasAdded t (record { addr = 8192; size = B8 }) times (accesses_by t (g.M.SharedMemory.seen l.fn.pass))
      → HasAdded t (record { addr = 8192; size = B8 }) times (accesses_by t (g.M.SharedMemory.seen l.pass));
}
