use Rattle.version_rule.specs.Kept.{origin_of}
use Rattle.shared_memory.specs.inner.Told.{ask}
use Rattle.version_memory.proofs.calls.VersionMemorySharedMemory.try_store.Given as goal

abbrev pub ghosts-try_store : goal.ghosts-try_store
ghosts-try_store a = record { ask = ask (origin_of a.shared.now.key) a.target.place a.target.value }
