use Rattle.version_memory.proofs.Counted.{counted-linked}
use Rattle.version_rule.specs.Kept.{origin_of}
use Rattle.version_memory.proofs.Betweens.{ready-pass}
use Rattle.version_memory.proofs.memory.VersionMemory.load_ex_within.Goals as goal

pub load_ex_cell-linked-requires-clause-ready : goal.load_ex_cell-linked-requires-clause-ready
load_ex_cell-linked-requires-clause-ready c =
    let pass = c.args.pass.now in
    ready-pass c.args.self.now.table.shared.key c.args.self.now.table.shared.table_id pass.seat.table_id pass.seat.me pass.has pass.number pass.reserved c.args.self.now.made c.requires.memory pass.between
    c.requires.single.0 c.requires.single.1 c.requires.single.2

pub invariant_of-pass-clause-counted : goal.invariant_of-pass-clause-counted
invariant_of-pass-clause-counted c =
    let pass = c.args.pass.now in
    counted-linked (origin_of c.args.self.now.table.shared.key) c.target-target.result.place pass.seat.me c.load_ex_cell-linked.new.seat.me pass.has pass.number pass.reserved pass.started pass.between pass.counted c.load_ex_cell-linked.result.cell c.load_ex_cell-linked.result.tag c.load_ex_cell-linked.ensures.reserved c.load_ex_cell-linked.ensures.missed

pub invariant_of-pass-2-clause-counted : goal.invariant_of-pass-2-clause-counted
invariant_of-pass-2-clause-counted c =
    let pass = c.args.pass.now in
    counted-linked (origin_of c.args.self.now.table.shared.key) c.target-target.result.place pass.seat.me c.load_ex_cell-linked.new.seat.me pass.has pass.number pass.reserved pass.started pass.between pass.counted c.load_ex_cell-linked.result.cell c.load_ex_cell-linked.result.tag c.load_ex_cell-linked.ensures.reserved c.load_ex_cell-linked.ensures.missed
