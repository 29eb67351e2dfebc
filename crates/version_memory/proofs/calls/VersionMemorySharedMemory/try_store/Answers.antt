use Rattle.std.proofs.Common.{rules, ℕ, false, refl, ap, arith}
use Rattle.shared_memory.specs.Passes.{marked}
use Rattle.history.specs.Operation.{entries_of_operation, store}
use Rattle.version_rule.specs.Kept.{origin_of}
use Rattle.version_memory.proofs.Betweens.{ready-pass, sees-goes}
use Rattle.version_memory.proofs.Counted.{counted-goes}
use Rattle.version_memory.proofs.calls.VersionMemorySharedMemory.try_store.Goals as goal

pub try_store-requires-clause-ready : goal.try_store-requires-clause-ready
try_store-requires-clause-ready c =
    let pass = c.args.pass.now in
    ready-pass c.args.self.now.table.shared.key c.args.self.now.table.shared.table_id pass.seat.table_id pass.seat.me pass.has pass.number pass.reserved c.args.self.now.made c.requires.memory pass.between
    c.requires.single.0 c.requires.single.1 c.requires.single.2

pub returns-in-Done-clause-done : goal.returns-in-Done-clause-done
returns-in-Done-clause-done c t single =
    let pass = c.args.pass.now in
    let target = c.target-target.result in
    rw (← c.target-target.ensures.place, ← c.target-target.ensures.value)
    (sees-goes (origin_of c.args.self.now.table.shared.key) pass.seat.me c.try_store.new.seat.me pass.has pass.number pass.reserved t
    (λ (u : ℕ). entries_of_operation u (store target.place target.value false)) _ pass.between single (c.in-Done.ensures.done c.in-Done.field-0 refl).goes)

pub invariant_of-pass-in-Done-clause-between : goal.invariant_of-pass-in-Done-clause-between
invariant_of-pass-in-Done-clause-between c =
    let goes = (c.in-Done.ensures.done c.in-Done.field-0 refl).goes in
    let between = c.args.pass.now.between in
    search rules

pub returns-in-Done-clause-numbers : goal.returns-in-Done-clause-numbers
returns-in-Done-clause-numbers c = ap marked (c.in-Done.ensures.done c.in-Done.field-0 refl).goes.numbers

pub invariant_of-pass-clause-counted : goal.invariant_of-pass-clause-counted
invariant_of-pass-clause-counted c =
    let pass = c.args.pass.now in
    counted-goes (origin_of c.args.self.now.table.shared.key) pass.seat.me c.try_store.new.seat.me pass.has pass.number pass.reserved pass.started pass.started _ _ pass.between pass.counted (c.in-Waits.ensures.waits refl) (omega arith)

pub invariant_of-pass-in-Spent-clause-counted : goal.invariant_of-pass-in-Spent-clause-counted
invariant_of-pass-in-Spent-clause-counted c =
    let pass = c.args.pass.now in
    counted-goes (origin_of c.args.self.now.table.shared.key) pass.seat.me c.try_store.new.seat.me pass.has pass.number pass.reserved pass.started pass.started _ _ pass.between pass.counted (c.in-Spent.ensures.spent refl).0 (omega arith)

pub invariant_of-pass-in-Done-clause-counted : goal.invariant_of-pass-in-Done-clause-counted
invariant_of-pass-in-Done-clause-counted c =
    let pass = c.args.pass.now in
    counted-goes (origin_of c.args.self.now.table.shared.key) pass.seat.me c.try_store.new.seat.me pass.has pass.number pass.reserved pass.started pass.started _ _ pass.between pass.counted (c.in-Done.ensures.done c.in-Done.field-0 refl).goes (omega arith)
