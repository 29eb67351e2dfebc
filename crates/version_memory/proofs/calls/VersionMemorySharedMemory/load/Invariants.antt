use Rattle.version_rule.specs.Kept.{origin_of}
use Rattle.shared_memory.specs.inner.Told.{ask}
use Rattle.version_memory.proofs.calls.VersionMemorySharedMemory.load.Given as goal

abbrev pub ghosts-load_cell : goal.ghosts-load_cell
ghosts-load_cell a = record { ask = ask (origin_of a.shared.now.key) a.place 0 }
