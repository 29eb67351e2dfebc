use Rattle.version_rule.specs.Kept.{origin_of}
use Rattle.version_rule.specs.inner.Told.{birth}
use Rattle.version_memory.proofs.starting.VersionMemoryStartMemory.start.Given as goal

abbrev pub ghosts-start_child : goal.ghosts-start_child
ghosts-start_child a = record { birth = birth (origin_of a.shared.now.key) a.child a.entry a.arg }
