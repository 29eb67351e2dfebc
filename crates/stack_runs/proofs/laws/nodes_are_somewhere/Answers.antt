use Rattle.stack_runs.proofs.Outcomes.{all_somewhere}
use Rattle.stack_runs.proofs.laws.nodes_are_somewhere.Goals as goal

pub returns : goal.returns
returns c nodes rounds budget size history front back ends range outcome are =
    all_somewhere nodes rounds budget size history ends range outcome front back are
