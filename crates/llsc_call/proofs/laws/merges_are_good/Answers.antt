use Rattle.llsc_call.proofs.GoodMerges.{merge_good}
use Rattle.llsc_call.proofs.laws.merges_are_good.Goals as goal

pub returns : goal.returns
returns c = merge_good
