use Rattle.version_rule.specs.Kept.{origin_of}
use Rattle.shared_memory.specs.inner.Told.{ask}
use Rattle.version_memory.proofs.memory.VersionMemory.load_ex_stamped.Given as goal

abbrev pub ghosts-load_ex_stamped_cell : goal.ghosts-load_ex_stamped_cell
ghosts-load_ex_stamped_cell g a = record { ask = ask (origin_of a.shared.now.key) a.target.place a.target.value }
