use Rattle.std.proofs.Common.{[], true, lit<, refl, subst}
use Rattle.guest_calls.specs.Run.{begins, first_point, returns, ReachesBy, Reaches}
use Rattle.guest_calls.specs.Worked.{call}
use Rattle.a32_runs.specs.OneWord.{calling, thread_at}
use Rattle.a32_runs.proofs.SmallRuns.{call_next, call_returned}
use Rattle.a32_runs.proofs.Staying.{stays_at_start}
use Rattle.a32_runs.proofs.worked_runs.threads_with_a_stock.Goals as goal
use Rattle.a32_step.specs.Machine.{a32}

pub returns-clause-yields : goal.returns-clause-yields
returns-clause-yields c =
    subst (λ m. ReachesBy a32 true calling 1 (first_point (thread_at 0 5 0 0 158)) [] m 1 []) (call_returned 5 0 0 158 0)
    (returns [] (thread_at 0 5 0 0 158) 0 [] (call 158 5 0 0) 0 begins (lit< tt) (call_next 5 0 0 158) refl refl)

pub returns-clause-stays : goal.returns-clause-stays
returns-clause-stays c = λ pairs machine steps output reached.
    (stays_at_start calling 1 (thread_at 0 4 7 0 983041) (call 983041 4 7 0) (call_next 4 7 0 983041) refl pairs machine steps output reached).none

pub returns-clause-without : goal.returns-clause-without
returns-clause-without c =
    subst (λ m. Reaches a32 calling 1 (thread_at 0 4 7 0 983041) [] m 1 []) (call_returned 4 7 0 983041 4294967258)
    (returns [] (thread_at 0 4 7 0 983041) 0 [] (call 983041 4 7 0) 4294967258 begins (lit< tt) (call_next 4 7 0 983041) refl refl)
