use Rattle.version_memory.proofs.Counted.{counted-stored}
use Rattle.version_memory.proofs.Betweens.{ready-pass}
use Rattle.std.proofs.Common.{ℕ, false, subst}
use Rattle.history.specs.Operation.{entries_of_operation, store}
use Rattle.history.specs.declared.entry.Entry.TheVariants.{Begin, Write}
use Rattle.version_rule.specs.Kept.{origin_of}
use Rattle.version_memory.specs.Stands.{HasRoom, IsStamped}
use Rattle.version_memory.proofs.Betweens.{lead-held, sees-goes}
use Rattle.version_memory.proofs.memory.VersionMemory.store_stamped.Goals as goal

pub returns-clause-done : goal.returns-clause-done
returns-clause-done g c t single =
    let pass = c.args.pass.now in
    let target = c.target-target.result in
    rw (← c.target-target.ensures.place, ← c.target-target.ensures.value)
    (sees-goes (origin_of c.args.self.now.table.shared.key) pass.seat.me c.store_cell-stored.new.seat.me pass.has pass.number pass.reserved t
    (λ (u : ℕ). entries_of_operation u (store target.place target.value false)) _ pass.between single c.in-Some.ensures.done.goes)

pub returns-clause-stamp : goal.returns-clause-stamp
returns-clause-stamp g c t single =
    let pass = c.args.pass.now in
    let target = c.target-target.result in
    rw (← c.target-target.ensures.place, ← c.target-target.ensures.value)
    (subst (λ (u : ℕ). IsStamped c.args.self.now.table.shared.key.size target.place c.in-Some.stamp (Write u target.place target.value false) pass.seat.me.0.seen c.store_cell-stored.new.seat.me.0.seen)
    (single.only pass.seat.me.0.lead (lead-held pass.seat.me pass.has pass.number pass.reserved pass.between)) c.in-Some.ensures.done.stamped)

pub returns-clause-room : goal.returns-clause-room
returns-clause-room g c t single =
    let pass = c.args.pass.now in
    let target = c.target-target.result in
    rw (← c.target-target.ensures.place)
    (subst (λ (u : ℕ). HasRoom c.args.self.now.table.shared.key.size target.place (Begin u target.place) pass.seat.me.0.seen c.store_cell-stored.new.seat.me.0.seen)
    (single.only pass.seat.me.0.lead (lead-held pass.seat.me pass.has pass.number pass.reserved pass.between)) c.in-Some.ensures.done.room)

pub store_cell-stored-requires-clause-ready : goal.store_cell-stored-requires-clause-ready
store_cell-stored-requires-clause-ready g c =
    let pass = c.args.pass.now in
    ready-pass c.args.self.now.table.shared.key c.args.self.now.table.shared.table_id pass.seat.table_id pass.seat.me pass.has pass.number pass.reserved c.args.self.now.made c.requires.memory pass.between
    c.requires.single.0 c.requires.single.1 c.requires.single.2

pub invariant_of-pass-clause-counted : goal.invariant_of-pass-clause-counted
invariant_of-pass-clause-counted g c =
    let pass = c.args.pass.now in
    counted-stored (origin_of c.args.self.now.table.shared.key) c.target-target.result.place pass.seat.me c.store_cell-stored.new.seat.me pass.has pass.number pass.reserved pass.started pass.between pass.counted c.target-target.result.value c.store_cell-stored.result c.store_cell-stored.ensures.done (λ none. (c.store_cell-stored.ensures.spent none).0)

pub invariant_of-pass-2-clause-counted : goal.invariant_of-pass-2-clause-counted
invariant_of-pass-2-clause-counted g c =
    let pass = c.args.pass.now in
    counted-stored (origin_of c.args.self.now.table.shared.key) c.target-target.result.place pass.seat.me c.store_cell-stored.new.seat.me pass.has pass.number pass.reserved pass.started pass.between pass.counted c.target-target.result.value c.store_cell-stored.result c.store_cell-stored.ensures.done (λ none. (c.store_cell-stored.ensures.spent none).0)
