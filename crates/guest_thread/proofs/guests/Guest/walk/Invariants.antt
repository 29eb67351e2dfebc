-- Between two instructions, with all accesses behind it; what is kept from the next one on is right.
use Rattle.std.proofs.Common.{◌≡◌, ◌-◌, ◌≤◌}
use Rattle.guest_core.specs.Known.{AreRightFrom, EndsUnmet}
use Rattle.guest_thread.specs.inner.Ports.{IsAtRest}
use Rattle.guest_thread.specs.ThreadState.{thread_in}
use Rattle.guest_thread.proofs.Walked.{HasRun}
use Rattle.guest_thread.proofs.guests.Guest.walk.Given as goal

abbrev pub invariant-loop-left : goal.invariant-loop-left
invariant-loop-left g l = record {
  run : HasRun g.C.Core.set g.P.TryPort.replies g.P.TryPort.counted l.code.program l.fn.budget (thread_in g.C.Core.machine l.fn.self) l.fn.port
      (record { cpu = g.C.Core.machine l.self-inside.cpu; steps = l.budget - l.left; output = l.self-inside.output; printing = l.self-inside.printing }) l.port;
  rest : IsAtRest (record { cpu = g.C.Core.machine l.self-inside.cpu; steps = l.budget - l.left; output = l.self-inside.output; printing = l.self-inside.printing });
  right : AreRightFrom g.C.Ready.Ready.is_met g.C.Ready.Ready.found g.C.Ready.Ready.instr g.C.Ready.Ready.is_right l.code.program (g.C.Core.set.pc_of (g.C.Core.machine l.self-inside.cpu).state) l.kept;
  ends : EndsUnmet g.C.Ready.Ready.is_met l.kept;
  most : l.left ≤ l.budget;
  mem : g.P.TryPort.mem l.port ≡ g.P.TryPort.mem l.fn.port;
}

abbrev pub decreases-loop-left : goal.decreases-loop-left
decreases-loop-left g l = l.left
