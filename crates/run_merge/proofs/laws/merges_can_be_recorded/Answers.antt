use Rattle.run_merge.proofs.RecordedMerges.{merge_recorded}
use Rattle.run_merge.proofs.laws.merges_can_be_recorded.Goals as goal

pub returns : goal.returns
returns c = merge_recorded
