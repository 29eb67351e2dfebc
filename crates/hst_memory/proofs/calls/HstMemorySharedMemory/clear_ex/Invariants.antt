use Rattle.hst_memory.specs.Kept.{origin_of}
use Rattle.shared_memory.specs.inner.Told.{no_ask}
use Rattle.hst_memory.proofs.calls.HstMemorySharedMemory.clear_ex.Given as goal

abbrev pub ghosts-clear_reservation : goal.ghosts-clear_reservation
ghosts-clear_reservation a = record { ask = record no_ask { origin = origin_of a.shared.now.key } }
