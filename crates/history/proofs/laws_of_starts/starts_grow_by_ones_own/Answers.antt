use Rattle.std.proofs.Common.{refl}
use Rattle.history.specs.Parts.{entries_of}
use Rattle.history.proofs.Starts.{starts_from-length, starts_in-same, starts_in-start}
use Rattle.history.proofs.laws_of_starts.starts_grow_by_ones_own.Goals as goal

pub returns-clause-by_a_start : goal.returns-clause-by_a_start
returns-clause-by_a_start c = starts_in-start

pub returns-clause-by_no_other : goal.returns-clause-by_no_other
returns-clause-by_no_other c = λ thread old added none. starts_in-same thread old added (entries_of thread added) refl none

pub returns-clause-counted : goal.returns-clause-counted
returns-clause-counted c = λ thread history. starts_from-length thread 0 history
