use Rattle.guest_core.specs.Machine.{AwaitsNothing}
use Rattle.a32_trials.proofs.tests.cpu.starts.core_with.Given as goal

-- no reply is awaited where the core goes on
abbrev pub invariant-loop-value : goal.invariant-loop-value
invariant-loop-value l = AwaitsNothing l.cpu.phase
