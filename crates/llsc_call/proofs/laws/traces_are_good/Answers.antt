use Rattle.llsc_call.proofs.GoodTraces.{trace_good}
use Rattle.llsc_call.proofs.laws.traces_are_good.Goals as goal

pub returns : goal.returns
returns c = trace_good
