use Rattle.stack_runs.proofs.Holders.{loads_in_hand}
use Rattle.stack_runs.proofs.laws.only_holders_load_counts.Goals as goal

pub returns : goal.returns
returns c nodes rounds budget index t value size history front back ends exclusive range outcome known are =
    loads_in_hand nodes rounds budget size history ends range outcome front back index t value exclusive known are
