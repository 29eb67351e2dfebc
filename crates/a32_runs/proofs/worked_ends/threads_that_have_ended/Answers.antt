use Rattle.std.proofs.Common.{[]}
use Rattle.llsc_base.specs.declared.outside.Ask.TheVariants.{Load}
use Rattle.llsc_base.specs.declared.outside.Stop.TheVariants.{Budget, Exit}
use Rattle.a32_step.specs.Machine.{a32}
use Rattle.guest_calls.proofs.Asked.{asks_or_ends}
use Rattle.guest_thread.specs.Worked.{machine_of, word}
use Rattle.a32_runs.specs.Leaving.{loading}
use Rattle.a32_runs.proofs.LeavingRuns.{left, load_asked, load_spent}
use Rattle.a32_runs.proofs.worked_ends.threads_that_have_ended.Goals as goal

pub returns-clause-left : goal.returns-clause-left
returns-clause-left c = record { stop = Exit 1; steps = 2; output = []; ends = left (machine_of 2 1 1) 2 1 }

pub returns-clause-spent : goal.returns-clause-spent
returns-clause-spent c = record { stop = Budget; steps = 1; output = []; ends = load_spent (machine_of 2 1 1) 2 0 }

pub returns-clause-asks : goal.returns-clause-asks
returns-clause-asks c = λ ended.
    asks_or_ends a32 loading 1 _ [] (Load word) ended.stop ended.steps ended.output (load_asked (machine_of 2 1 1) 2 0) ended.ends
