use Rattle.std.proofs.Common.{◌<◌, length}
use Rattle.version_memory.specs.Memory.{pass_seen}
use Rattle.run_merge.specs.inner.Merging.{IsMerging}
use Rattle.run_merge.proofs.merging.Merging.take_some.Given as goal

abbrev pub invariant-loop : goal.invariant-loop
invariant-loop l = record {
  state : IsMerging l.size (pass_seen l.pass) l.self;
  more : length l.fn.self.out.items < length l.self.out.items;
}
