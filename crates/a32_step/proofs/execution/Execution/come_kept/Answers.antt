-- What comes of the row that was reached comes of the first.
use Rattle.std.proofs.Common.{◌≡◌, Bool, true, false, suc, ◌≤◌, inl, refl, arith}
use Rattle.a32_step.specs.declared.phases.Came.TheVariants.{Unmet, Next, Jumped, Passed, Held}
use Rattle.a32_step.proofs.CameOf.{kept_come, kept_then}
use Rattle.a32_step.proofs.execution.Execution.come_kept.Goals as goal
use Rattle.a32_step.proofs.execution.Execution.come_kept.Invariants.{tests}

pub loop-row-init : goal.loop-row-init
loop-row-init g c = record { self = refl; source = refl; one = inl refl; same = λ had. refl }

pub returns-in-Unmet-clause-came : goal.returns-in-Unmet-clause-came
returns-in-Unmet-clause-came g c =
    let inv = c.loop-row.invariant in
    kept_come c.args.kept.now.row c.loop-row.row c.args.kept.now.lowered c.args.image.now c.args.self.now c.loop-row.self inv.self inv.source inv.same inv.one
    Unmet c.come.new.self c.come.new.source c.in-Unmet.ensures.came (λ is. cc)

pub returns-in-Next-clause-came : goal.returns-in-Next-clause-came
returns-in-Next-clause-came g c =
    let inv = c.loop-row.invariant in
    kept_come c.args.kept.now.row c.loop-row.row c.args.kept.now.lowered c.args.image.now c.args.self.now c.loop-row.self inv.self inv.source inv.same inv.one
    Next c.come.new.self c.come.new.source c.in-Next.ensures.came (λ is. cc)

pub returns-in-Jumped-clause-came : goal.returns-in-Jumped-clause-came
returns-in-Jumped-clause-came g c =
    let inv = c.loop-row.invariant in
    kept_come c.args.kept.now.row c.loop-row.row c.args.kept.now.lowered c.args.image.now c.args.self.now c.loop-row.self inv.self inv.source inv.same inv.one
    Jumped c.come.new.self c.come.new.source c.in-Jumped.ensures.came (λ is. cc)

pub returns-in-Held-clause-came : goal.returns-in-Held-clause-came
returns-in-Held-clause-came g c =
    let inv = c.loop-row.invariant in
    kept_come c.args.kept.now.row c.loop-row.row c.args.kept.now.lowered c.args.image.now c.args.self.now c.loop-row.self inv.self inv.source inv.same inv.one
    Held c.come.new.self c.come.new.source c.in-Held.ensures.came (λ is. cc)

pub loop-row-preserved : goal.loop-row-preserved
loop-row-preserved g c =
    let inv = c.loop-row.invariant in
    let on = kept_then c.args.kept.now.row c.loop-row.row c.args.kept.now.lowered c.args.image.now c.args.self.now c.loop-row.self inv.self inv.source inv.same inv.one
    Passed c.come.new.self c.come.new.source c.in-Passed.ensures.came refl in
    let lowered = c.requires.kept on.met in
    record { self = on.self; source = on.source; one = on.one lowered; same = on.same lowered }

less : (now then : Bool) → now ≡ true → then ≡ false → suc (tests now) ≤ tests then
less true false now_is then_is = omega arith
less false _ now_is then_is = absurd (cc (now_is))
less true true now_is then_is = absurd (cc (then_is))

pub loop-row-smaller : goal.loop-row-smaller
loop-row-smaller g c =
    let inv = c.loop-row.invariant in
    let on = kept_then c.args.kept.now.row c.loop-row.row c.args.kept.now.lowered c.args.image.now c.args.self.now c.loop-row.self inv.self inv.source inv.same inv.one
    Passed c.come.new.self c.come.new.source c.in-Passed.ensures.came refl in
    less _ _ (c.requires.kept on.met).whole on.part
