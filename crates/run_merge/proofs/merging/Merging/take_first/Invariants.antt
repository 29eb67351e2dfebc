use Rattle.std.proofs.Common.{◌≡◌, ℕ, ◌<◌}
use Rattle.history.specs.Accesses.{history_of}
use Rattle.version_memory.specs.Memory.{pass_seen}
use Rattle.run_merge.specs.inner.Merging.{IsMerging}
use Rattle.run_merge.specs.Taking.{MayBeTaken}
use Rattle.run_merge.specs.declared.logs.Stamped.{Stamped}
use Rattle.run_merge.proofs.merging.Merging.take_first.Given as goal

abbrev pub invariant-loop-t : goal.invariant-loop-t
invariant-loop-t l = record {
  state : IsMerging l.size (pass_seen l.pass) l.self;
  same : l.self.out.items ≡ l.fn.self.out.items;
  none : (u : ℕ) (next : Stamped) → u < l.t → MayBeTaken l.size (pass_seen l.pass) (history_of l.self.out.items) u next → ⊥;
}
