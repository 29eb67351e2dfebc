use Rattle.std.proofs.Common.{◌≡◌, Some, None, ap, subst}
use Rattle.version_memory.specs.Memory.{memory_origin}
use Rattle.memory_handle.specs.Left.{IsLeft}
use Rattle.llsc_c.proofs.Same.{same_handle}
use Rattle.llsc_c.proofs.laws.handles_that_go_on_or_end.Goals as goal

pub returns-clause-as_before : goal.returns-clause-as_before
returns-clause-as_before c = λ old new before. (ap memory_origin before.memory, before.numbers.0, before.numbers.1, before.seen, before.fresh)

pub returns-clause-closed : goal.returns-clause-closed
returns-clause-closed c = λ handle bytes closed. subst (λ h. IsLeft h bytes) (same_handle handle closed.handle closed.was) closed.left

pub returns-clause-none : goal.returns-clause-none
returns-clause-none c = λ bytes closed. let wrong : None ≡ Some closed.handle = closed.was in cc
