-- With all accesses behind it.
use Rattle.std.proofs.Common.{◌≡◌}
use Rattle.guest_thread.specs.ThreadState.{thread_in}
use Rattle.guest_thread.proofs.Walked.{HasRun}
use Rattle.guest_thread.proofs.guests.Guest.carry_on.Given as goal

abbrev pub invariant-loop-walk : goal.invariant-loop-walk
invariant-loop-walk g l = record {
  run : HasRun g.C.Core.set g.P.TryPort.replies g.P.TryPort.counted l.fn.code.program l.fn.budget (thread_in g.C.Core.machine l.fn.self) l.fn.port (thread_in g.C.Core.machine l.self) l.port;
  program : l.code.program ≡ l.fn.code.program;
  mem : g.P.TryPort.mem l.port ≡ g.P.TryPort.mem l.fn.port;
}
