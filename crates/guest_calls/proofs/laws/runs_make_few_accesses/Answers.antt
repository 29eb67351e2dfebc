use Rattle.std.proofs.Common.{refl}
use Rattle.guest_core.specs.Machine.{between}
use Rattle.guest_calls.proofs.FewAccesses.{few_accesses}
use Rattle.guest_calls.proofs.laws.runs_make_few_accesses.Goals as goal

pub returns : goal.returns
returns g c program budget start = few_accesses g.C.Core.set c.is_sound.ensures.room program budget (between start) refl
