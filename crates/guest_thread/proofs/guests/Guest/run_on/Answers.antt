-- What each access leaves holds for all of them.
use Rattle.std.proofs.Common.{◌∙◌, ◌++◌, [], length, refl, sym, subst, append-nil}
use Rattle.llsc_base.specs.Images.{Program}
use Rattle.guest_core.specs.Ports.{Leads}
use Rattle.guest_thread.specs.Ports.{IsRunning}
use Rattle.guest_thread.specs.inner.Ports.{RestsBy}
use Rattle.guest_thread.specs.Under.{HasComeFrom}
use Rattle.guest_thread.specs.ThreadState.{thread_in}
use Rattle.guest_thread.proofs.Ways.{no_way, Ways, way_on}
use Rattle.guest_thread.proofs.Leading.{leads_on}
use Rattle.guest_thread.proofs.guests.Guest.run_on.Goals as goal

pub loop-rest-init : goal.loop-rest-init
loop-rest-init g c = record {
  running = c.requires.running;
  program = refl;
  mem = c.requires.mem;
  counted = c.requires.counted;
  way = no_way g.C.Core.set g.P.TryPort.replies c.args.starts c.args.code.now.program c.args.budget (thread_in g.C.Core.machine c.args.self.now) c.args.port.now;
}

pub returns-in-Some-clause-comes : goal.returns-in-Some-clause-comes
returns-in-Some-clause-comes g c = λ point before come.
    let program : Program = c.args.code.now.program in
    let starts = c.args.starts in
    let same = c.carry_on.ensures.program ∙ c.loop-rest.invariant.program in
    let further : Ways g.C.Core.set g.P.TryPort.replies starts program c.args.budget (thread_in g.C.Core.machine c.loop-rest.self) c.loop-rest.port (thread_in g.C.Core.machine c.carry_on.new.self) c.carry_on.new.port =
    subst (λ p. Ways g.C.Core.set g.P.TryPort.replies starts p c.args.budget (thread_in g.C.Core.machine c.loop-rest.self) c.loop-rest.port (thread_in g.C.Core.machine c.carry_on.new.self) c.carry_on.new.port) c.loop-rest.invariant.program (c.carry_on.ensures.comes starts) in
    let way = way_on g.C.Core.set g.P.TryPort.replies starts program c.args.budget (thread_in g.C.Core.machine c.args.self.now) (thread_in g.C.Core.machine c.loop-rest.self) (thread_in g.C.Core.machine c.carry_on.new.self) c.args.port.now c.loop-rest.port c.carry_on.new.port
    c.loop-rest.invariant.way further point before come in
    let ended = c.in-Some.ensures.comes point (before ++ way.0) (subst (λ p. HasComeFrom g.C.Core.set starts p c.args.budget point (before ++ way.0) (thread_in g.C.Core.machine c.carry_on.new.self)) (sym same) way.1.1) in (
      way.0,
      (
        subst (λ all. Leads g.P.TryPort.replies c.args.port.now all c.pass.new.port) (append-nil way.0)
            (leads_on g.P.TryPort.replies c.args.port.now c.carry_on.new.port c.pass.new.port way.0 [] way.1.0 ended.0),
        subst (λ p. RestsBy g.C.Core.set starts (g.P.Port.refuses c.pass.new.port) p c.args.budget point (before ++ way.0) c.in-Some.rest (thread_in g.C.Core.machine c.pass.new.self)) same ended.1,
      ),
    )

pub loop-rest-preserved : goal.loop-rest-preserved
loop-rest-preserved g c =
    let program : Program = c.args.code.now.program in
    let starts = c.args.starts in
    let same = c.carry_on.ensures.program ∙ c.loop-rest.invariant.program in
    let further : Ways g.C.Core.set g.P.TryPort.replies starts program c.args.budget (thread_in g.C.Core.machine c.loop-rest.self) c.loop-rest.port (thread_in g.C.Core.machine c.carry_on.new.self) c.carry_on.new.port =
    subst (λ p. Ways g.C.Core.set g.P.TryPort.replies starts p c.args.budget (thread_in g.C.Core.machine c.loop-rest.self) c.loop-rest.port (thread_in g.C.Core.machine c.carry_on.new.self) c.carry_on.new.port) c.loop-rest.invariant.program (c.carry_on.ensures.comes starts) in
    let passed : Ways g.C.Core.set g.P.TryPort.replies starts program c.args.budget (thread_in g.C.Core.machine c.carry_on.new.self) c.carry_on.new.port (thread_in g.C.Core.machine c.pass.new.self) c.pass.new.port =
    subst (λ p. Ways g.C.Core.set g.P.TryPort.replies starts p c.args.budget (thread_in g.C.Core.machine c.carry_on.new.self) c.carry_on.new.port (thread_in g.C.Core.machine c.pass.new.self) c.pass.new.port) same c.in_default.ensures.comes in
    record {
      running = subst (λ p. IsRunning (length p.bytes) c.args.budget (thread_in g.C.Core.machine c.pass.new.self)) same c.in_default.ensures.goes_on;
      program = c.carry_on.ensures.program ∙ c.loop-rest.invariant.program;
      mem = c.pass.ensures.mem ∙ c.carry_on.ensures.mem ∙ c.loop-rest.invariant.mem;
      counted = c.pass.ensures.counted;
      way = way_on g.C.Core.set g.P.TryPort.replies starts program c.args.budget (thread_in g.C.Core.machine c.args.self.now) (thread_in g.C.Core.machine c.loop-rest.self) (thread_in g.C.Core.machine c.pass.new.self) c.args.port.now c.loop-rest.port c.pass.new.port
          c.loop-rest.invariant.way
          (way_on g.C.Core.set g.P.TryPort.replies starts program c.args.budget (thread_in g.C.Core.machine c.loop-rest.self) (thread_in g.C.Core.machine c.carry_on.new.self) (thread_in g.C.Core.machine c.pass.new.self) c.loop-rest.port c.carry_on.new.port c.pass.new.port further passed);
    }
