-- The words are those of the stack guest, by computing.
use Rattle.llsc_base.specs.Memory.{bytes_of}
use Rattle.stack_runs.proofs.Outcomes.{all_ended}
use Rattle.stack_runs.proofs.worked.four_nodes_come_back.Goals as goal

pub returns : goal.returns
unfolding bytes_of
returns c = record {
  each_once = λ budget size history ends range outcome left. (all_ended 4 1000 budget size history ends range outcome left).holds_each;
  all_counted = λ budget size history ends range outcome left. (all_ended 4 1000 budget size history ends range outcome left).sum;
}
