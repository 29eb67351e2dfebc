use Rattle.hst_memory.specs.Kept.{origin_of}
use Rattle.shared_memory.specs.inner.Told.{ask}
use Rattle.hst_memory.proofs.calls.HstMemorySharedMemory.load.Given as goal

abbrev pub ghosts-load_cell : goal.ghosts-load_cell
ghosts-load_cell a = record { ask = ask (origin_of a.shared.now.key) a.place 0 }
