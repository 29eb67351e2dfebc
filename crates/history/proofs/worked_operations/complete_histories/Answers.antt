use Rattle.std.proofs.Common.{◌≡◌}
use Rattle.history.specs.Standing.{looked, rests}
use Rattle.history.specs.Worked.{word}
use Rattle.history.proofs.Operations.{last_stage-AreFinished}
use Rattle.history.proofs.SmallHistories.{pair_complete}
use Rattle.history.proofs.worked_operations.complete_histories.Goals as goal

pub returns-clause-complete : goal.returns-clause-complete
returns-clause-complete c = pair_complete

pub returns-clause-watching : goal.returns-clause-watching
returns-clause-watching c = λ complete. let wrong : looked word ≡ rests = last_stage-AreFinished 1 _ (complete 1) in cc
