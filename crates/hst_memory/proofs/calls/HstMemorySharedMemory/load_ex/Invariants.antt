use Rattle.hst_memory.specs.Kept.{origin_of}
use Rattle.shared_memory.specs.inner.Told.{ask}
use Rattle.hst_memory.proofs.calls.HstMemorySharedMemory.load_ex.Given as goal

abbrev pub ghosts-load_ex_cell : goal.ghosts-load_ex_cell
ghosts-load_ex_cell g a = record { ask = ask (origin_of a.shared.now.key) a.target.place a.target.value }
