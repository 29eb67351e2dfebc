use Rattle.a32_runs.proofs.SmallTraces.{alone_after_a_load, alone_at_once, alone_spent}
use Rattle.a32_runs.proofs.worked_alone.ends_of_a_thread_alone.Goals as goal

pub returns-clause-at_once : goal.returns-clause-at_once
returns-clause-at_once c = alone_at_once

pub returns-clause-behind_a_load : goal.returns-clause-behind_a_load
returns-clause-behind_a_load c = alone_after_a_load

pub returns-clause-spent : goal.returns-clause-spent
returns-clause-spent c = alone_spent
