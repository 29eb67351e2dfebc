use Rattle.std.proofs.Common.{◌≢◌, ◌<◌, length, below_more, sym, subst, ◌∙◌, length-set, arith}
use Rattle.std.proofs.lemmas.List.{get_or-set_other}
use Rattle.guest_thread.specs.Ended.{HasEnded}
use Rattle.run_checker.specs.inner.Positions.{IsBrought}
use Rattle.run_checker.proofs.checker.Checker.asks.Goals as goal

pub returns-in-Asks-clause-asks : goal.returns-in-Asks-clause-asks
returns-in-Asks-clause-asks g c size early brought =
    let index = c.loop-guest.guest-index in
    let was = c.loop-guest.invariant in
    let known : index < length c.args.self.now.guests.items = omega (arith, was.long, c.loop-guest.auto.guest-items, c.loop-guest-test.true) in
    let come =
    subst (IsBrought g.C.Core.set g.C.Core.machine c.args.image.now size c.args.budget early index) (sym (was.same index c.guest-item.result (omega arith)))
    (brought.guests index c.guest-item.result known) in
    record { thread = index; ask = c.in-Asks.field-0; known = known; next = (c.in-Asks.ensures.comes _ _ come).0 }

pub loop-guest-preserved : goal.loop-guest-preserved
loop-guest-preserved g c =
    let guests = c.loop-guest.guest-items in
    let index = c.loop-guest.guest-index in
    let was = c.loop-guest.invariant in
    let long = was.long in
    let inside : index < length guests = omega arith in
    let known : index < length c.args.self.now.guests.items = omega (arith, long) in
    record {
      long = length-set guests index c.next.new.self ∙ was.long;
      same = λ k d less.
          let apart : k ≢ index = λ same. omega (arith, same, less) in
          get_or-set_other guests index k c.next.new.self d apart ∙ was.same k d (omega (arith, less));
      stopped = λ size early brought.
          let come =
          subst (IsBrought g.C.Core.set g.C.Core.machine c.args.image.now size c.args.budget early index) (sym (was.same index c.guest-item.result (omega arith)))
          (brought.guests index c.guest-item.result known) in
          below_more (HasEnded g.C.Core.set c.args.image.now size c.args.budget early) index (was.stopped size early brought)
          (record { stop = c.in_default.field-0; steps = c.next.new.self.steps; output = c.next.new.self.output; ends = c.in_default.ensures.comes _ _ come });
    }

pub returns-clause-stopped : goal.returns-clause-stopped
returns-clause-stopped g c size early brought t less =
    let long = c.loop-guest.invariant.long in
    c.loop-guest.invariant.stopped size early brought t (omega (arith, long, less))
