use Rattle.std.proofs.Common.{◌-◌, length}
use Rattle.history.specs.Parts.{accesses_of}
use Rattle.version_memory.specs.Memory.{pass_seen}
use Rattle.run_merge.specs.inner.Merging.{IsMerging}
use Rattle.run_merge.proofs.merging.Merging.take_all.Given as goal

abbrev pub invariant-loop : goal.invariant-loop
invariant-loop l = IsMerging l.size (pass_seen l.pass) l.self

abbrev pub decreases-loop : goal.decreases-loop
decreases-loop l = length (accesses_of (pass_seen l.pass)) - length l.self.out.items
