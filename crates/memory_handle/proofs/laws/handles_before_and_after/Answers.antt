use Rattle.std.proofs.Common.{ap}
use Rattle.version_memory.specs.Memory.{memory_origin}
use Rattle.memory_handle.proofs.laws.handles_before_and_after.Goals as goal

pub returns-clause-alike : goal.returns-clause-alike
returns-clause-alike c = λ old new alike. (ap memory_origin alike.memory, alike.first, alike.upto, alike.fresh)

pub returns-clause-left : goal.returns-clause-left
returns-clause-left c = λ handle bytes left. left.over

pub returns-clause-left_bytes : goal.returns-clause-left_bytes
returns-clause-left_bytes c = λ handle bytes left. left.bytes_are
