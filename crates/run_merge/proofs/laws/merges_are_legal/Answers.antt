use Rattle.history.specs.Accesses.{history_of}
use Rattle.history.specs.Monitor.{at_rest_by}
use Rattle.history.proofs.Appends.{IsArmLegal-from_accesses_of}
use Rattle.run_merge.proofs.LegalMerges.{merge_legal}
use Rattle.run_merge.proofs.laws.merges_are_legal.Goals as goal

pub returns : goal.returns
returns c = λ size bytes history merged legal merge.
    merge_legal size bytes history (history_of merged) merge (IsArmLegal-from_accesses_of (at_rest_by size.granule bytes size.threads) history legal.accesses)
