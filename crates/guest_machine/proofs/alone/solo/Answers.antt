use Rattle.std.proofs.Common.{◌∙◌, [], sym, ap, subst}
use Rattle.guest_thread.specs.Ports.{EndsBy}
use Rattle.guest_thread.specs.ThreadState.{thread_in}
use Rattle.guest_thread.specs.Under.{HasCome}
use Rattle.history.specs.Monitor.{at_rest_by}
use Rattle.guest_thread.specs.Start.{thread_start}
use Rattle.guest_machine.proofs.UnderWay.{after_all, at_first, end_of}
use Rattle.guest_machine.proofs.alone.solo.Goals as goal

pub returns : goal.returns
returns g c =
    let program = c.args.image.now in
    let size = c.args.size.now in
    let start = thread_start g.C.Core.set program size size.threads 0 in
    let at_rest = c.in_ok-sized.ensures ∙ ap (λ b. at_rest_by size.granule b size.threads) c.bytes.ensures.items
    ∙ ap (at_rest_by size.granule program.bytes) c.requires.one_thread in
    let come = subst (λ p. HasCome g.C.Core.set p c.args.budget start [] (thread_in g.C.Core.machine c.in_ok-guest.guest)) (sym c.in_ok-code.ensures) (c.in_ok-guest.ensures.comes c.args.budget) in
    let ran = c.run-stop.ensures.ends start come in
    let ended = subst (λ p. EndsBy g.C.Core.set (λ addr. ⊥) p c.args.budget start ran.0 c.run-stop.result c.run-stop.new.self.steps c.run-stop.new.self.output) c.in_ok-code.ensures ran.1.1 in (
      c.requires.one_thread,
      end_of g.C.Core.set program c.args.budget start size.granule program.bytes ran.0 c.run-stop.result c.run-stop.new.port (thread_in g.C.Core.machine c.run-stop.new.self) c.steps.result c.into_output.result
          c.steps.ensures c.into_output.ensures
          (after_all size.granule program.bytes _ ran.0 c.run-stop.new.port (at_first size.granule program.bytes _ at_rest c.none.ensures) ran.1.0) ended,
    )
