use Rattle.history.specs.Accesses.{history_of}
use Rattle.run_merge.proofs.Taking.{all_taken, never_stuck, none_taken, one_taken}
use Rattle.run_merge.proofs.laws.logs_can_be_merged.Goals as goal

pub returns-clause-begins : goal.returns-clause-begins
returns-clause-begins c = none_taken

pub returns-clause-goes_on : goal.returns-clause-goes_on
returns-clause-goes_on c = never_stuck

pub returns-clause-one_more : goal.returns-clause-one_more
returns-clause-one_more c = λ size history taken t next way may. one_taken size history taken way t next may

pub returns-clause-ends : goal.returns-clause-ends
returns-clause-ends c = λ size history merged way all. all_taken size history (history_of merged) way all
