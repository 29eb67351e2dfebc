use Rattle.std.proofs.Common.{arith}
use Rattle.version_rule.specs.Kept.{origin_of}
use Rattle.version_memory.proofs.Counted.{counted-goes}
use Rattle.version_memory.proofs.starting.VersionMemoryStartMemory.enter.Goals as goal

pub invariant_of-pass-clause-counted : goal.invariant_of-pass-clause-counted
invariant_of-pass-clause-counted g c =
    let pass = c.args.pass.now in
    counted-goes (origin_of c.args.self.now.table.shared.key) pass.seat.me c.wait_for_start.new.seat.me pass.has pass.number pass.reserved pass.started pass.started _ _ pass.between pass.counted c.wait_for_start.ensures.goes (omega arith)
