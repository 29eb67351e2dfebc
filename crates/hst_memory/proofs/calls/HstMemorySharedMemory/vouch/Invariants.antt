use Rattle.hst_memory.specs.Kept.{origin_of}
use Rattle.shared_memory.specs.inner.Told.{no_ask}
use Rattle.hst_memory.proofs.calls.HstMemorySharedMemory.vouch.Given as goal

abbrev pub ghosts-vouch_for : goal.ghosts-vouch_for
ghosts-vouch_for a = record { ask = record no_ask { origin = origin_of a.shared.now.key } }
