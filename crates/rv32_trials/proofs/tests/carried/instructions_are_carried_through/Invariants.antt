use Rattle.std.proofs.Common.{◌≡◌, length}
use Rattle.rv32_trials.proofs.tests.carried.instructions_are_carried_through.Given as goal

-- the program is as long as memory
abbrev pub invariant-loop-state : goal.invariant-loop-state
invariant-loop-state g l = length l.code.program.bytes ≡ 65536
