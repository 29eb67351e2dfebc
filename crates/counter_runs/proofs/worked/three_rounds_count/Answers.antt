-- The words are those of the counter guest, by computing.
use Rattle.counter_runs.proofs.Counted.{counters_hold, most}
use Rattle.counter_runs.proofs.worked.three_rounds_count.Goals as goal

pub returns : goal.returns
returns c budget index size history ends room range outcome left known =
    let few = most size.threads 3 range in
    counters_hold 0 3 budget size history ends room few.0 few.1 outcome left index known
