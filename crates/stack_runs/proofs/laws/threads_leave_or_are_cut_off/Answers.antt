use Rattle.stack_runs.proofs.Outcomes.{all_stop_well}
use Rattle.stack_runs.proofs.laws.threads_leave_or_are_cut_off.Goals as goal

pub returns : goal.returns
returns c nodes rounds budget t size history ends end range outcome got =
    all_stop_well nodes rounds budget size history ends range outcome t end got
