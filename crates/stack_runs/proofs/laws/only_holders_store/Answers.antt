use Rattle.stack_runs.proofs.Holders.{exclusives_to_top, stores_in_hand}
use Rattle.stack_runs.proofs.laws.only_holders_store.Goals as goal

pub returns : goal.returns
returns c = record {
  exclusive = λ nodes rounds budget t value size history front back ends place range outcome are.
      exclusives_to_top nodes rounds budget size history ends range outcome front back t value place are;
  plain = λ nodes rounds budget t value size history front back ends place range outcome are.
      stores_in_hand nodes rounds budget size history ends range outcome front back t value place are;
}
