use Rattle.stack_runs.proofs.Outcomes.{all_ended}
use Rattle.stack_runs.proofs.laws.nodes_come_back.Goals as goal

pub returns : goal.returns
returns c = record {
  each_once = λ nodes rounds budget size history ends range outcome left. (all_ended nodes rounds budget size history ends range outcome left).holds_each;
  all_counted = λ nodes rounds budget size history ends range outcome left. (all_ended nodes rounds budget size history ends range outcome left).sum;
}
