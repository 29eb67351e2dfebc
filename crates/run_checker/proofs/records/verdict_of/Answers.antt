use Rattle.std.proofs.Common.{[], ◌∷◌, ◌++◌, All, length, refl, sym, subst, ◌∙◌, arith}
use Rattle.std.proofs.lemmas.List.{nil_from_length}
use Rattle.std.proofs.lemmas.List.Elements.{All-head, All-rest}
use Rattle.run_record.specs.Limits.{IsAccess}
use Rattle.run_checker.proofs.Judging.{under_start, under_more, under_wrong, under_unfinished, under_good}
use Rattle.run_checker.proofs.Seen.{seen_start, seen_more, seen_all}
use Rattle.run_checker.proofs.records.verdict_of.Goals as goal

pub loop-access-init : goal.loop-access-init
loop-access-init g c = record {
  ready = c.requires.ready;
  marks = refl;
  few = omega arith;
  known = c.requires.accesses;
  seen = λ told. ([], (λ size brought. seen_start g.C.Core.set c.args.image.now size c.args.budget g.C.Core.machine c.args.accesses.now c.args.checker brought), told);
  under = λ size brought. under_start g.C.Core.set g.C.Core.machine c.args.image.now size c.args.budget c.args.accesses.now c.args.checker brought;
}

pub step-requires-clause-access : goal.step-requires-clause-access
step-requires-clause-access g c κs within =
    let was = c.loop-access.invariant in
    let P = IsAccess (length c.args.checker.memory.marks) in
    subst (λ n. IsAccess n c.in-Some.access.now) (sym was.marks)
    (All-head P c.in-Some.access.now c.in-Some.after.now (subst (All P) c.in-Some.ensures.cases.0 was.known))

pub returns-in-Err-clause-verdict : goal.returns-in-Err-clause-verdict
returns-in-Err-clause-verdict g c size all brought =
    under_wrong g.C.Core.set g.C.Core.machine c.args.image.now size c.args.budget c.args.accesses.now c.loop-access.checker c.loop-access.index c.in-Some.access.now c.in-Err.reason c.loop-access.rest.now c.in-Some.after.now
    c.in-Some.ensures.cases.0 (c.loop-access.invariant.under size brought) (λ early. c.in-Err.ensures.wrong size early)

pub loop-access-preserved : goal.loop-access-preserved
loop-access-preserved g c =
    let was = c.loop-access.invariant in
    let few = was.few in
    let shorter = c.in-Some.ensures.cases.1 in
    record {
      ready = c.in-Ok.ensures.ready;
      marks = c.step.ensures.size.threads ∙ was.marks;
      few = omega (arith, few, shorter);
      known = All-rest (IsAccess (length c.args.checker.memory.marks)) c.in-Some.access.now c.in-Some.after.now c.loop-access.rest.now c.in-Some.ensures.cases.0 was.known;
      seen = λ told.
          let seen = was.seen told in (
            seen.0 ++ c.in-Ok.sighting ∷ [],
            (λ size brought.
                seen_more g.C.Core.set c.args.image.now size c.args.budget g.C.Core.machine c.args.accesses.now c.loop-access.checker c.step.new.self c.in-Some.access.now c.in-Ok.sighting c.loop-access.rest.now c.in-Some.after.now seen.0
                c.in-Some.ensures.cases.0 (seen.1 size brought) (λ early before. let step = c.in-Ok.ensures.right size early before in (step.1, step.2))),
            c.in_ok-see.ensures seen.0 seen.2,
          );
      under = λ size brought.
          under_more g.C.Core.set g.C.Core.machine c.args.image.now size c.args.budget c.args.accesses.now c.loop-access.checker c.step.new.self c.loop-access.index c.in-Some.access.now c.loop-access.rest.now c.in-Some.after.now
          c.in-Some.ensures.cases.0 (was.under size brought) (λ early before. let step = c.in-Ok.ensures.right size early before in (step.0, step.2));
    }

pub returns-then-asks-clause-verdict : goal.returns-then-asks-clause-verdict
returns-then-asks-clause-verdict g c size all brought =
    let was = c.loop-access.invariant in
    under_unfinished g.C.Core.set g.C.Core.machine c.args.image.now size c.args.budget c.args.accesses.now c.loop-access.checker c.loop-access.index (length c.loop-access.checker.guests.items) c.loop-access.rest.now
    (nil_from_length c.loop-access.rest.now c.in_default.ensures.cases) (all ∙ sym c.requires.ready.marks ∙ sym was.marks ∙ was.ready.marks)
    (was.under size brought) (λ early. c.if-asks.ensures.asks size early)

pub returns-clause-verdict : goal.returns-clause-verdict
returns-clause-verdict g c size all brought =
    let was = c.loop-access.invariant in
    under_good g.C.Core.set g.C.Core.machine c.args.image.now size c.args.budget c.args.accesses.now c.loop-access.checker c.loop-access.index (length c.loop-access.checker.guests.items) c.loop-access.rest.now
    (nil_from_length c.loop-access.rest.now c.in_default.ensures.cases) (all ∙ sym c.requires.ready.marks ∙ sym was.marks ∙ was.ready.marks)
    (was.under size brought) (λ early. c.if-asks.ensures.stopped size early)

pub returns-clause-told : goal.returns-clause-told
returns-clause-told g c good told =
    let seen = c.loop-access.invariant.seen told in (
      seen.0,
      (λ size brought.
          seen_all g.C.Core.set c.args.image.now size c.args.budget g.C.Core.machine c.args.accesses.now c.loop-access.checker c.loop-access.rest.now seen.0
          (nil_from_length c.loop-access.rest.now c.in_default.ensures.cases) (seen.1 size brought)),
      seen.2,
    )
