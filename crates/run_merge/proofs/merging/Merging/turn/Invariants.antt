use Rattle.std.proofs.Common.{◌≡◌, ◌<◌, ◌≤◌, true, false, length}
use Rattle.version_memory.specs.Memory.{pass_seen}
use Rattle.run_merge.specs.inner.Merging.{IsMerging}
use Rattle.run_merge.proofs.merging.Merging.turn.Given as goal

abbrev pub invariant-loop-t : goal.invariant-loop-t
invariant-loop-t l = record {
  state : IsMerging l.size (pass_seen l.pass) l.self;
  more : l.any ≡ true → length l.fn.self.out.items < length l.self.out.items;
  no_less : length l.fn.self.out.items ≤ length l.self.out.items;
  same : l.any ≡ false → l.self.out.items ≡ l.fn.self.out.items;
}
