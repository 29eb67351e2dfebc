use Rattle.std.proofs.Common.{◌≤◌, List, ap, subst, sym, ◌∙◌}
use Rattle.llsc_base.specs.Images.{Program}
use Rattle.history.specs.Starts.{Started}
use Rattle.guest_thread.specs.Begun.{stock_of}
use Rattle.guest_family.specs.inner.Next.{HasNoneLeft, after_answer}
use Rattle.guest_family.specs.inner.UnderWay.{HasCalled, IsPartUnderWay}
use Rattle.guest_family.proofs.Answered.{refused_by_stock}
use Rattle.guest_family.proofs.GoingOn.{HasGone, HasGoneOn, gone_more, gone_to_end}
use Rattle.guest_family.proofs.running.run_out.Goals as goal

pub calls-preserved : goal.calls-preserved
calls-preserved g c =
    let home = g.M.SharedMemory.home in
    let numbers = g.M.SharedMemory.numbers in
    let seen = g.M.SharedMemory.seen in
    let mem = g.M.SharedMemory.id c.args.mem.now in
    let origin = g.M.SharedMemory.origin c.args.mem.now in
    let program = c.args.code.now.program in
    let called = c.in-Calls.called in
    let entry = c.in-Calls.entry in
    let gone : HasGoneOn home numbers seen mem origin program c.args.budget c.args.part c.answered-part.result =
    λ t start goes.
    let before = c.calls.invariant.gone t start goes in
    let now = subst (λ (p : Program). IsPartUnderWay home numbers seen mem origin p c.args.budget t start c.calls.part) (sym c.calls.invariant.program) before.0 in
    let is = subst (λ (p : Program). HasCalled home numbers seen mem origin p c.args.budget t start c.calls.part.pass called entry c.in-Calls.arg × (c.calls.part.steps ≤ called.steps))
    c.calls.invariant.program (c.in-Calls.ensures.next t start now) in
    let none = subst (λ (ss : List Started). HasNoneLeft (stock_of origin.first origin.spare t) ss) (sym (is.0.same ∙ before.2)) (c.requires.none t goes.single) in
    subst (HasGone home numbers seen mem origin program c.args.budget t start c.args.part) (sym (c.answered-part.ensures ∙ ap (after_answer called) c.refusal.ensures))
    (gone_more home numbers seen mem origin program c.args.budget t start c.args.part c.calls.part called entry c.in-Calls.arg _ before is
    (refused_by_stock home numbers seen mem origin program c.args.budget t start c.calls.part.pass called entry c.in-Calls.arg is.0 none)) in
    record {
      program = c.in-Calls.ensures.program ∙ c.calls.invariant.program;
      within = (gone c.requires.goes.0 c.requires.goes.1 c.requires.goes.2).0.within;
      gone = gone;
    }

pub returns-in-Ended : goal.returns-in-Ended
returns-in-Ended g c = record {
  ended = λ t start goes.
      gone_to_end g.M.SharedMemory.home g.M.SharedMemory.numbers g.M.SharedMemory.seen (g.M.SharedMemory.id c.args.mem.now) (g.M.SharedMemory.origin c.args.mem.now)
      c.args.code.now.program _ c.args.budget t start c.args.part c.calls.part c.in-Ended.done (c.calls.invariant.gone t start goes) c.calls.invariant.program
      (c.in-Ended.ensures.next t start);
}
