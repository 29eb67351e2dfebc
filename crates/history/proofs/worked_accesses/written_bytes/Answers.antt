use Rattle.std.proofs.Common.{refl}
use Rattle.llsc_base.specs.Memory.{bytes_of}
use Rattle.history.proofs.worked_accesses.written_bytes.Goals as goal

pub returns-clause-written : goal.returns-clause-written
unfolding bytes_of
returns-clause-written c = refl

pub returns-clause-exclusive : goal.returns-clause-exclusive
unfolding bytes_of
returns-clause-exclusive c = refl
