use Rattle.std.proofs.Common.{[], lit<}
use Rattle.llsc_base.specs.declared.outside.Stop.TheVariants.{ReadOnly}
use Rattle.guest_calls.specs.Run.{begins, halts, spends}
use Rattle.a32_runs.specs.OneWord.{calling, thread_at}
use Rattle.a32_runs.proofs.SmallRuns.{exit_left, load_reached, outside_stopped, spent_at_once, store_barred, write_spent}
use Rattle.a32_runs.proofs.worked_runs.threads_that_end.Goals as goal

pub returns-clause-leaves : goal.returns-clause-leaves
returns-clause-leaves c = exit_left

pub returns-clause-stops : goal.returns-clause-stops
returns-clause-stops c = outside_stopped

pub returns-clause-barred : goal.returns-clause-barred
returns-clause-barred c = halts [] (thread_at 0 7 0 0 0) 0 [] (ReadOnly 0) begins (lit< tt) store_barred

pub returns-clause-spends : goal.returns-clause-spends
returns-clause-spends c = spent_at_once calling (thread_at 0 261 0 0 1)

pub returns-clause-spends_one : goal.returns-clause-spends_one
returns-clause-spends_one c = spends _ _ [] load_reached

pub returns-clause-writes : goal.returns-clause-writes
returns-clause-writes c = write_spent
