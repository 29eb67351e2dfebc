use Rattle.std.proofs.Common.{refl}
use Rattle.llsc_base.specs.Memory.{bytes_of, number_of}
use Rattle.history.proofs.SmallMemory.{apart}
use Rattle.run_checker.proofs.worked.wrong_values.Goals as goal

pub returns-clause-load : goal.returns-clause-load
unfolding number_of
returns-clause-load c = (refl, λ same. apart 5 0 refl same)

pub returns-clause-load_exclusive : goal.returns-clause-load_exclusive
unfolding number_of
returns-clause-load_exclusive c = (refl, λ same. apart 5 0 refl same)

pub returns-clause-stale : goal.returns-clause-stale
unfolding number_of bytes_of
returns-clause-stale c = (refl, λ same. apart 0 5 refl same)

pub returns-clause-memorys : goal.returns-clause-memorys
unfolding number_of
returns-clause-memorys c = λ wrong. wrong.1 refl

pub returns-clause-stored : goal.returns-clause-stored
unfolding number_of bytes_of
returns-clause-stored c = λ wrong. wrong.1 refl
