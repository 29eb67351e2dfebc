-- Each walk leads on.
use Rattle.std.proofs.Common.{refl, subst, ◌∙◌}
use Rattle.llsc_base.specs.Images.{Program}
use Rattle.guest_thread.specs.ThreadState.{thread_in}
use Rattle.guest_thread.proofs.Walked.{HasRun, not_run, run_on}
use Rattle.guest_thread.proofs.guests.Guest.carry_on.Given.{Over}
use Rattle.guest_thread.proofs.guests.Guest.carry_on.Goals.{After-walk}
use Rattle.guest_thread.proofs.guests.Guest.carry_on.Goals as goal

pub loop-walk-init : goal.loop-walk-init
loop-walk-init g c = record {
  run = not_run g.C.Core.set g.P.TryPort.replies g.P.TryPort.counted c.args.code.now.program c.args.budget (thread_in g.C.Core.machine c.args.self.now) c.args.port.now c.requires.running c.requires.counted;
  program = refl;
  mem = refl;
}

walked : (g : Over) (c : After-walk g)
    → HasRun g.C.Core.set g.P.TryPort.replies g.P.TryPort.counted c.args.code.now.program c.args.budget (thread_in g.C.Core.machine c.args.self.now) c.args.port.now (thread_in g.C.Core.machine c.walk.new.self) c.walk.new.port
walked g c =
    let inv = c.loop-walk.invariant in
    let Run : Program → Type 0 = λ p. HasRun g.C.Core.set g.P.TryPort.replies g.P.TryPort.counted p c.args.budget (thread_in g.C.Core.machine c.loop-walk.self) c.loop-walk.port (thread_in g.C.Core.machine c.walk.new.self) c.walk.new.port in
    run_on g.C.Core.set g.P.TryPort.replies g.P.TryPort.counted c.args.code.now.program c.args.budget (thread_in g.C.Core.machine c.args.self.now) (thread_in g.C.Core.machine c.loop-walk.self)
    (thread_in g.C.Core.machine c.walk.new.self) c.args.port.now c.loop-walk.port c.walk.new.port inv.run
    (subst Run inv.program (record { running = c.walk.ensures.running; counts = c.walk.ensures.counted; later = c.walk.ensures.later; way = c.walk.ensures.comes }))

pub loop-walk-preserved : goal.loop-walk-preserved
loop-walk-preserved g c = record {
  run = walked g (goal.at.loop-walk-preserved g c).After-walk;
  program = c.meet.ensures ∙ c.loop-walk.invariant.program;
  mem = c.walk.ensures.mem ∙ c.loop-walk.invariant.mem;
}

pub returns-then-not-walk : goal.returns-then-not-walk
returns-then-not-walk g c =
    let run = walked g (goal.at.returns-then-not-walk g c).After-walk in
    record {
      running = run.running;
      later = run.later;
      program = c.loop-walk.invariant.program;
      mem = c.walk.ensures.mem ∙ c.loop-walk.invariant.mem;
      counted = run.counts;
      comes = run.way;
    }

pub returns-then-not-meet : goal.returns-then-not-meet
returns-then-not-meet g c =
    let run = walked g (goal.at.returns-then-not-meet g c).After-walk in
    record {
      running = run.running;
      later = run.later;
      program = c.meet.ensures ∙ c.loop-walk.invariant.program;
      mem = c.walk.ensures.mem ∙ c.loop-walk.invariant.mem;
      counted = run.counts;
      comes = run.way;
    }
