-- An entry comes at another stage than its thread's.
use Rattle.std.proofs.Common.{◌≡◌, ap, refl}
use Rattle.llsc_base.specs.declared.access.Place.{Place}
use Rattle.history.specs.Standing.{begun, looked, rests, written}
use Rattle.history.specs.Worked.{beside, word}
use Rattle.history.proofs.Operations.{AreStaged-AreOperations}
use Rattle.history.proofs.SmallHistories.{not_anothers}
use Rattle.history.proofs.SmallMemory.{apart}
use Rattle.history.proofs.worked_operations.entries_that_are_no_operations.Goals as goal

-- the two places are not one
two_places : beside ≡ word → ⊥
two_places same = apart 12 8 refl (ap (λ (place : Place). place.addr) same)

pub returns-clause-not_begun : goal.returns-clause-not_begun
returns-clause-not_begun c = λ are. let wrong : rests ≡ looked word = (AreStaged-AreOperations 0 _ are).0 in cc

pub returns-clause-plain : goal.returns-clause-plain
returns-clause-plain c = λ are. let wrong : looked word ≡ rests = (AreStaged-AreOperations 0 _ are).1.0 in cc

pub returns-clause-read_elsewhere : goal.returns-clause-read_elsewhere
returns-clause-read_elsewhere c = λ are. let same : looked beside ≡ looked word = (AreStaged-AreOperations 0 _ are).1.0 in two_places cc

pub returns-clause-not_written : goal.returns-clause-not_written
returns-clause-not_written c = λ are. let wrong : begun word ≡ written word = (AreStaged-AreOperations 0 _ are).1.0 in cc

pub returns-clause-written_elsewhere : goal.returns-clause-written_elsewhere
returns-clause-written_elsewhere c = λ are. let same : begun beside ≡ begun word = (AreStaged-AreOperations 0 _ are).1.0 in two_places cc

pub returns-clause-ended_elsewhere : goal.returns-clause-ended_elsewhere
returns-clause-ended_elsewhere c = λ are. let same : written word ≡ written beside = (AreStaged-AreOperations 0 _ are).1.1.0 in two_places cc

pub returns-clause-not_ended : goal.returns-clause-not_ended
returns-clause-not_ended c = λ are. let wrong : written word ≡ rests = (AreStaged-AreOperations 0 _ are).1.1.0 in cc

pub returns-clause-of_another : goal.returns-clause-of_another
returns-clause-of_another c = λ are. not_anothers _ are.finished.operations are.finished.are
