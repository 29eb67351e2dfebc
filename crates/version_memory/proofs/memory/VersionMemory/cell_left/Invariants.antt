use Rattle.version_rule.specs.Kept.{origin_of}
use Rattle.shared_memory.specs.inner.Told.{ask}
use Rattle.version_memory.proofs.memory.VersionMemory.cell_left.Given as goal

abbrev pub ghosts-look_at_left : goal.ghosts-look_at_left
ghosts-look_at_left a = record { ask = ask (origin_of a.shared.now.key) a.place 0 }
