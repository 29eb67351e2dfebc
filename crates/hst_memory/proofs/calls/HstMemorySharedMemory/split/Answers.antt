use Rattle.std.proofs.Common.{ap, sym, ◌∙◌, subst}
use Rattle.shared_memory.specs.Passes.{marked}
use Rattle.shared_memory.specs.Seen.{IsSingle}
use Rattle.shared_memory.proofs.Marks.{marked-taken, single-one}
use Rattle.hst_memory.specs.Told.{Mine}
use Rattle.hst_memory.proofs.Betweens.{between-given, between-left}
use Rattle.hst_memory.proofs.calls.HstMemorySharedMemory.split.Goals as goal

pub invariant_of-pass : goal.invariant_of-pass
invariant_of-pass c =
    let lead = c.other_number-lead in
    rw c.split_number-seat.ensures.rest (record { between = between-left c.args.pass.now.seat.me c.args.pass.now.has c.args.pass.now.number c.args.pass.now.reserved c.args.t lead.result c.args.pass.now.between lead.ensures.one lead.ensures.other })

pub invariant_of-result : goal.invariant_of-result
invariant_of-result c = rw c.split_number-seat.ensures.given (record { between = between-given c.args.pass.now.seat.me c.only_mark.result c.args.pass.now.number c.args.pass.now.has c.args.pass.now.reserved c.args.t c.args.pass.now.between c.only_mark.ensures })

pub returns-clause-rest : goal.returns-clause-rest
returns-clause-rest c i u = (ap (λ (m : Mine). marked m.0.numbers u) c.split_number-seat.ensures.rest ∙ marked-taken c.args.pass.now.seat.me.0.numbers c.args.t u) i

pub returns-clause-single : goal.returns-clause-single
returns-clause-single c = subst (λ (m : Mine). IsSingle c.args.t (marked m.0.numbers)) (sym c.split_number-seat.ensures.given) (single-one c.args.t)
