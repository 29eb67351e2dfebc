use Rattle.guest_core.specs.Machine.{AwaitsNothing}
use Rattle.rv32_trials.proofs.tests.guests.printed.Given as goal

-- neither a reply nor an answer is awaited where the core goes on
abbrev pub invariant-loop : goal.invariant-loop
invariant-loop l = AwaitsNothing l.cpu.phase
