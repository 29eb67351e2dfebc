use Rattle.version_rule.specs.Kept.{origin_of}
use Rattle.shared_memory.specs.inner.Told.{ask}
use Rattle.version_memory.proofs.memory.VersionMemory.store_stamped.Given as goal

abbrev pub ghosts-store_cell : goal.ghosts-store_cell
ghosts-store_cell g a = record { ask = ask (origin_of a.shared.now.key) a.target.place a.target.value }
