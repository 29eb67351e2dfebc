use Rattle.counter_runs.proofs.Counted.{counters_hold, most}
use Rattle.counter_runs.proofs.laws.counters_hold_their_namings.Goals as goal

pub returns : goal.returns
returns c seed rounds budget index size history ends room range outcome left known =
    let few = most size.threads rounds range in
    counters_hold seed rounds budget size history ends room few.0 few.1 outcome left index known
