use Rattle.version_rule.specs.Kept.{origin_of}
use Rattle.shared_memory.specs.inner.Told.{ask}
use Rattle.version_memory.proofs.memory.VersionMemory.store_ex_stamped.Given as goal

abbrev pub ghosts-store_ex_cell : goal.ghosts-store_ex_cell
ghosts-store_ex_cell a = record { ask = ask (origin_of a.shared.now.key) a.target.place a.target.value }

abbrev pub ghosts-fail_absent : goal.ghosts-fail_absent
ghosts-fail_absent a = record { ask = ask (origin_of a.shared.now.key) a.target.place a.target.value }
