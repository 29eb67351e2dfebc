use Rattle.guest_core.specs.Machine.{AwaitsNothing}
use Rattle.a32_trials.proofs.tests.cpu.transcripts.steps.Given as goal

-- no reply is awaited where the core goes on
abbrev pub invariant-loop : goal.invariant-loop
invariant-loop l = AwaitsNothing l.cpu.phase
