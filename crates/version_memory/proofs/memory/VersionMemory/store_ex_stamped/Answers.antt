use Rattle.version_memory.proofs.Counted.{counted-failed, counted-stored_ex}
use Rattle.version_memory.proofs.Betweens.{ready-pass}
use Rattle.version_rule.specs.Kept.{origin_of}
use Rattle.version_memory.proofs.Betweens.{lead-held}
use Rattle.version_memory.proofs.Exactly.{failed-at}
use Rattle.version_memory.proofs.memory.VersionMemory.store_ex_stamped.Goals as goal

pub returns-in_default-clause-exact_failed : goal.returns-in_default-clause-exact_failed
returns-in_default-clause-exact_failed c is t single =
    let pass = c.args.pass.now in
    rw (← c.target-target.ensures.place, ← c.target-target.ensures.value) (failed-at (origin_of c.args.self.now.table.shared.key) c.target-target.result.place c.target-target.result.value pass.seat.me c.fail_absent.new.seat.me t
    (single.only pass.seat.me.0.lead (lead-held pass.seat.me pass.has pass.number pass.reserved pass.between)) c.fail_absent.ensures.failed)

pub returns-clause-exact_failed : goal.returns-clause-exact_failed
returns-clause-exact_failed c is t single =
    let pass = c.args.pass.now in
    rw (← c.target-target.ensures.place, ← c.target-target.ensures.value) (failed-at (origin_of c.args.self.now.table.shared.key) c.target-target.result.place c.target-target.result.value pass.seat.me c.store_ex_cell.new.seat.me t
    (single.only pass.seat.me.0.lead (lead-held pass.seat.me pass.has pass.number pass.reserved pass.between)) (c.store_ex_cell.ensures.failed is))

pub fail_absent-requires-clause-ready : goal.fail_absent-requires-clause-ready
fail_absent-requires-clause-ready c =
    let pass = c.args.pass.now in
    ready-pass c.args.self.now.table.shared.key c.args.self.now.table.shared.table_id pass.seat.table_id pass.seat.me pass.has pass.number pass.reserved c.args.self.now.made c.requires.memory pass.between
    c.requires.single.0 c.requires.single.1 c.requires.single.2

pub store_ex_cell-requires-clause-ready : goal.store_ex_cell-requires-clause-ready
store_ex_cell-requires-clause-ready c =
    let pass = c.args.pass.now in
    ready-pass c.args.self.now.table.shared.key c.args.self.now.table.shared.table_id pass.seat.table_id pass.seat.me pass.has pass.number pass.reserved c.args.self.now.made c.requires.memory pass.between
    c.requires.single.0 c.requires.single.1 c.requires.single.2

pub invariant_of-pass-clause-counted : goal.invariant_of-pass-clause-counted
invariant_of-pass-clause-counted c =
    let pass = c.args.pass.now in
    counted-failed (origin_of c.args.self.now.table.shared.key) c.target-target.result.place pass.seat.me c.fail_absent.new.seat.me pass.has pass.number pass.reserved pass.started pass.between pass.counted c.target-target.result.value c.fail_absent.ensures.failed

pub invariant_of-pass-2-clause-counted : goal.invariant_of-pass-2-clause-counted
invariant_of-pass-2-clause-counted c =
    let pass = c.args.pass.now in
    counted-stored_ex (origin_of c.args.self.now.table.shared.key) c.target-target.result.place pass.seat.me c.store_ex_cell.new.seat.me pass.has pass.number pass.reserved pass.started pass.between pass.counted c.target-target.result.value c.store_ex_cell.result c.store_ex_cell.ensures.done c.store_ex_cell.ensures.failed
