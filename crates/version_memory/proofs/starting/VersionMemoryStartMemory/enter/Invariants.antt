use Rattle.version_rule.specs.Kept.{origin_of}
use Rattle.shared_memory.specs.inner.Told.{no_ask}
use Rattle.version_memory.proofs.starting.VersionMemoryStartMemory.enter.Given as goal

abbrev pub ghosts-wait_for_start : goal.ghosts-wait_for_start
ghosts-wait_for_start g a = record { ask = record no_ask { origin = origin_of a.shared.now.key } }
