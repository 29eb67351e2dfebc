use Rattle.std.proofs.Common.{◌≢◌, ◌≤◌, ◌%◌, rules, subst, sym, ◌∙◌, arith}
use Rattle.llsc_base.specs.Images.{Program}
use Rattle.guest_family.specs.inner.UnderWay.{HasCalled, IsPartUnderWay}
use Rattle.guest_family.proofs.Answered.{refused_by_entry}
use Rattle.guest_family.proofs.GoingOn.{HasGone, HasGoneOn, gone_more, gone_to_call, gone_to_end}
use Rattle.guest_family.proofs.running.to_start.Goals as goal

pub calls-preserved : goal.calls-preserved
calls-preserved g c =
    let home = g.M.SharedMemory.home in
    let numbers = g.M.SharedMemory.numbers in
    let seen = g.M.SharedMemory.seen in
    let mem = g.M.SharedMemory.id c.args.mem.now in
    let origin = g.M.SharedMemory.origin c.args.mem.now in
    let program = c.args.code.now.program in
    let called = c.in-Calls.called in
    let entry = c.in-Calls.entry in
    let gone : HasGoneOn home numbers seen mem origin program c.args.budget c.args.part c.answered-part.result =
    λ t start goes.
    let before = c.calls.invariant.gone t start goes in
    let now = subst (λ (p : Program). IsPartUnderWay home numbers seen mem origin p c.args.budget t start c.calls.part) (sym c.calls.invariant.program) before.0 in
    let is = subst (λ (p : Program). HasCalled home numbers seen mem origin p c.args.budget t start c.calls.part.pass called entry c.in-Calls.arg × (c.calls.part.steps ≤ called.steps))
    c.calls.invariant.program (c.in-Calls.ensures.next t start now) in
    let odd : entry % 4 ≢ 0 = search rules in
    subst (HasGone home numbers seen mem origin program c.args.budget t start c.args.part) (sym c.answered-part.ensures)
    (gone_more home numbers seen mem origin program c.args.budget t start c.args.part c.calls.part called entry c.in-Calls.arg _ before is
    (refused_by_entry home numbers seen mem origin program c.args.budget t start c.calls.part.pass called entry c.in-Calls.arg is.0 odd)) in
    record {
      program = c.in-Calls.ensures.program ∙ c.calls.invariant.program;
      within = (gone c.requires.goes.0 c.requires.goes.1 c.requires.goes.2).0.within;
      gone = gone;
    }

pub returns-then-entry-eq0-clause-next : goal.returns-then-entry-eq0-clause-next
returns-then-entry-eq0-clause-next g c t start goes =
    let home = g.M.SharedMemory.home in
    let numbers = g.M.SharedMemory.numbers in
    let seen = g.M.SharedMemory.seen in
    let mem = g.M.SharedMemory.id c.args.mem.now in
    let origin = g.M.SharedMemory.origin c.args.mem.now in
    let called = c.in-Calls.called in
    let before = c.calls.invariant.gone t start goes in
    let first = before.3 in
    let now = subst (λ (p : Program). IsPartUnderWay home numbers seen mem origin p c.args.budget t start c.calls.part) (sym c.calls.invariant.program) before.0 in
    let is = subst (λ (p : Program). HasCalled home numbers seen mem origin p c.args.budget t start c.calls.part.pass called c.in-Calls.entry c.in-Calls.arg × (c.calls.part.steps ≤ called.steps))
    c.calls.invariant.program (c.in-Calls.ensures.next t start now) in
    let later = is.1 in
    (gone_to_call home numbers seen mem origin c.args.code.now.program c.args.budget t start c.args.part c.calls.part called c.in-Calls.entry c.in-Calls.arg before.1 before.2 is.0, omega (arith, first, later))

pub returns-in-Ended-clause-next : goal.returns-in-Ended-clause-next
returns-in-Ended-clause-next g c t start goes =
    gone_to_end g.M.SharedMemory.home g.M.SharedMemory.numbers g.M.SharedMemory.seen (g.M.SharedMemory.id c.args.mem.now) (g.M.SharedMemory.origin c.args.mem.now)
    c.args.code.now.program _ c.args.budget t start c.args.part c.calls.part c.in-Ended.done (c.calls.invariant.gone t start goes) c.calls.invariant.program
    (c.in-Ended.ensures.next t start)
