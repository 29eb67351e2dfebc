-- What was carried through and each access lead the thread on, and nearer to the most that it can have come.
use Rattle.std.proofs.Common.{◌≡◌, ◌≤◌, ◌+◌, ◌-◌, ◌*◌, length}
use Rattle.guest_calls.specs.Calls.{most_output}
use Rattle.guest_thread.specs.Ports.{IsRunning}
use Rattle.guest_thread.specs.Progress.{headway_of}
use Rattle.guest_thread.specs.ThreadState.{thread_in}
use Rattle.guest_thread.proofs.Ways.{Ways}
use Rattle.guest_thread.proofs.guests.Guest.run_on.Given as goal

abbrev pub invariant-loop-rest : goal.invariant-loop-rest
invariant-loop-rest g l = record {
  running : IsRunning (length l.fn.code.program.bytes) l.fn.budget (thread_in g.C.Core.machine l.self);
  program : l.code.program ≡ l.fn.code.program;
  mem : g.P.TryPort.mem l.port ≡ length l.fn.code.program.bytes;
  counted : g.P.TryPort.counted l.port ≤ headway_of (thread_in g.C.Core.machine l.self);
  way : Ways g.C.Core.set g.P.TryPort.replies l.fn.starts l.fn.code.program l.fn.budget (thread_in g.C.Core.machine l.fn.self) l.fn.port (thread_in g.C.Core.machine l.self) l.port;
}

abbrev pub decreases-loop-rest : goal.decreases-loop-rest
decreases-loop-rest g l = 17 * l.budget + most_output + 17 - headway_of (thread_in g.C.Core.machine l.self)
