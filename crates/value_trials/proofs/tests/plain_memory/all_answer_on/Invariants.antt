-- The memory stays as large as it was made.
use Rattle.std.proofs.Common.{◌≡◌, length}
use Rattle.value_trials.proofs.tests.plain_memory.all_answer_on.Given as goal

abbrev pub invariant-loop-access : goal.invariant-loop-access
invariant-loop-access l = (length l.memory.memory ≡ 65536) × (length l.memory.marks ≡ 2)
