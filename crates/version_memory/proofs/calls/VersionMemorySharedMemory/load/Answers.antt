use Rattle.std.proofs.Common.{arith}
use Rattle.version_rule.specs.Kept.{origin_of}
use Rattle.version_memory.proofs.Counted.{counted-goes}
use Rattle.version_memory.proofs.Betweens.{ready-pass}
use Rattle.version_memory.proofs.calls.VersionMemorySharedMemory.load.Goals as goal

pub load_cell-cell-requires-clause-ready : goal.load_cell-cell-requires-clause-ready
load_cell-cell-requires-clause-ready c =
    let pass = c.args.pass.now in
    ready-pass c.args.self.now.table.shared.key c.args.self.now.table.shared.table_id pass.seat.table_id pass.seat.me pass.has pass.number pass.reserved c.args.self.now.made c.requires.memory pass.between
    c.requires.single.0 c.requires.single.1 c.requires.single.2

pub invariant_of-pass-clause-counted : goal.invariant_of-pass-clause-counted
invariant_of-pass-clause-counted c =
    let pass = c.args.pass.now in
    counted-goes (origin_of c.args.self.now.table.shared.key) pass.seat.me c.load_cell-cell.new.seat.me pass.has pass.number pass.reserved pass.started pass.started _ _ pass.between pass.counted c.load_cell-cell.ensures.goes (omega arith)
