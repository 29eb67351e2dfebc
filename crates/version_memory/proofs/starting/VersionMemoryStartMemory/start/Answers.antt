use Rattle.std.proofs.Common.{◌+◌, refl, arith}
use Rattle.std.proofs.lemmas.Bool.{eq-eqb}
use Rattle.version_rule.specs.Kept.{origin_of}
use Rattle.version_memory.proofs.Counted.{counted-goes}
use Rattle.version_memory.proofs.starting.VersionMemoryStartMemory.start.Goals as goal

pub invariant_of-pass-clause-counted : goal.invariant_of-pass-clause-counted
invariant_of-pass-clause-counted c =
    let pass = c.args.pass.now in
    counted-goes (origin_of c.args.self.now.table.shared.key) pass.seat.me c.start_child.new.seat.me pass.has pass.number pass.reserved pass.started (pass.started + 1) _ _ pass.between pass.counted c.start_child.ensures.goes (rw (eq-eqb pass.seat.me.0.lead pass.seat.me.0.lead refl) (omega arith))
