use Rattle.std.proofs.Common.{rules, ap, sym, ◌∙◌, subst, arith}
use Rattle.shared_memory.specs.Passes.{marked}
use Rattle.shared_memory.specs.Seen.{IsSingle}
use Rattle.shared_memory.proofs.Marks.{marked-below, marked-taken, single-one}
use Rattle.version_rule.specs.Told.{Mine}
use Rattle.version_memory.proofs.Betweens.{between-given, between-left}
use Rattle.version_memory.proofs.Counted.{counted-given, counted-left}
use Rattle.version_memory.proofs.calls.VersionMemorySharedMemory.split.Goals as goal

pub invariant_of-pass : goal.invariant_of-pass
invariant_of-pass c =
    let lead = c.other_number-lead in
    record {
      between = rw c.split_number-seat.ensures.rest (between-left c.args.pass.now.seat.me c.args.pass.now.has c.args.pass.now.number c.args.pass.now.reserved c.args.t lead.result c.args.pass.now.between lead.ensures.one lead.ensures.other);
      few = c.args.pass.now.few;
      counted = rw c.split_number-seat.ensures.rest (counted-left c.args.pass.now.seat.me c.args.t lead.result c.requires.fresh);
    }

pub invariant_of-result : goal.invariant_of-result
invariant_of-result c = record {
  between = rw c.split_number-seat.ensures.given (between-given c.args.pass.now.seat.me c.only_mark.result c.args.pass.now.number c.args.pass.now.has c.args.pass.now.reserved c.args.t c.args.pass.now.between c.only_mark.ensures);
  few = omega arith;
  counted = rw c.split_number-seat.ensures.given (counted-given c.args.pass.now.seat.me c.args.t c.requires.one c.requires.fresh);
}

pub returns-clause-rest : goal.returns-clause-rest
returns-clause-rest c i u = (ap (λ (m : Mine). marked m.0.numbers u) c.split_number-seat.ensures.rest ∙ marked-taken c.args.pass.now.seat.me.0.numbers c.args.t u) i

pub returns-clause-single : goal.returns-clause-single
returns-clause-single c = subst (λ (m : Mine). IsSingle c.args.t (marked m.0.numbers)) (sym c.split_number-seat.ensures.given) (single-one c.args.t)

pub bounds-pass-t : goal.bounds-pass-t
bounds-pass-t c = let below = marked-below c.args.pass.now.has c.args.t (sym (c.args.pass.now.between.numbers c.args.t) ∙ c.requires.one) in omega (arith, below)

pub only_mark-requires : goal.only_mark-requires
only_mark-requires c = let below = marked-below c.args.pass.now.has c.args.t (sym (c.args.pass.now.between.numbers c.args.t) ∙ c.requires.one) in search rules
