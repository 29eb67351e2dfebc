use Rattle.version_rule.specs.Kept.{origin_of}
use Rattle.shared_memory.specs.inner.Told.{no_ask}
use Rattle.version_memory.proofs.calls.VersionMemorySharedMemory.vouch.Given as goal

abbrev pub ghosts-vouch_for : goal.ghosts-vouch_for
ghosts-vouch_for a = record { ask = record no_ask { origin = origin_of a.shared.now.key } }
