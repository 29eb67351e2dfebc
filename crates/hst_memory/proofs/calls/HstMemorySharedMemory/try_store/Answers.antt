use Rattle.hst_memory.specs.Kept.{origin_of}
use Rattle.hst_memory.proofs.Betweens.{sees-none}
use Rattle.hst_memory.proofs.calls.HstMemorySharedMemory.try_store.Goals as goal

pub returns-clause-nothing : goal.returns-clause-nothing
returns-clause-nothing c t single = sees-none (origin_of c.args.self.now.table.shared.key) t c.args.pass.now.seat.me.0.seen _ c.vouch.ensures.seen c.vouch.ensures.legal
