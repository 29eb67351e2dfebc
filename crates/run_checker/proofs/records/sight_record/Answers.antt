use Rattle.std.proofs.Common.{◌≡◌, All, length, sym, subst, ◌∙◌}
use Rattle.run_record.specs.Limits.{IsAccess}
use Rattle.run_checker.specs.Sighted.{AreSighted}
use Rattle.run_checker.specs.Verdict.{Judges}
use Rattle.run_checker.proofs.records.sight_record.Goals as goal

pub verdict_of-requires-clause-ready : goal.verdict_of-requires-clause-ready
verdict_of-requires-clause-ready g c κs within = c.in_ok-checker.ensures.ready c.args.run.now.budget

pub verdict_of-requires-clause-accesses : goal.verdict_of-requires-clause-accesses
verdict_of-requires-clause-accesses g c κs within =
    let ready = c.in_ok-checker.ensures.ready c.args.run.now.budget in
    let marks : c.args.run.now.threads ≡ length c.in_ok-checker.checker.memory.marks = c.requires.threads ∙ sym c.in_ok-checker.ensures.threads ∙ sym ready.marks in
    subst (λ n. All (IsAccess n) c.as_slice-accesses.result.now) marks
    (subst (λ accesses. All (IsAccess c.args.run.now.threads) accesses) (sym c.as_slice-accesses.ensures) c.requires.limits.accesses)

pub returns-clause-verdict : goal.returns-clause-verdict
returns-clause-verdict g c =
    subst (λ accesses. Judges g.C.Core.set c.args.image.now c.args.size.now c.args.run.now.budget accesses c.in_ok-verdict.verdict) c.as_slice-accesses.ensures
    (c.in_ok-verdict.ensures.verdict c.args.size.now (sym c.in_ok-checker.ensures.threads) (c.in_ok-checker.ensures.brought c.args.run.now.budget))

pub returns-clause-sighted : goal.returns-clause-sighted
returns-clause-sighted g c good =
    let told = c.in_ok-verdict.ensures.told good c.in_ok-sightings.ensures in
    subst (AreSighted g.C.Core.set c.args.image.now c.args.size.now c.args.run.now.budget c.args.run.now.accesses) (sym told.2)
    (subst (λ accesses. AreSighted g.C.Core.set c.args.image.now c.args.size.now c.args.run.now.budget accesses told.0) c.as_slice-accesses.ensures
    (told.1 c.args.size.now (c.in_ok-checker.ensures.brought c.args.run.now.budget)))
