use Rattle.std.proofs.Common.{◌≡◌, [], ◌∷◌, lit<, refl, subst, arith}
use Rattle.llsc_base.specs.declared.outside.Stop.TheVariants.{Budget, Exit}
use Rattle.a32_step.specs.Machine.{a32}
use Rattle.guest_calls.specs.Run.{begins, returns, spends, ReachesFrom, Reaches}
use Rattle.guest_calls.specs.Worked.{call}
use Rattle.a32_runs.specs.OneWord.{calling, loading, thread_at}
use Rattle.guest_calls.proofs.Asked.{asks_or_ends}
use Rattle.guest_calls.proofs.Listed.{one_end_of_list}
use Rattle.a32_runs.proofs.SmallRuns.{call_next, call_returned, exit_left, load_asked, load_reached, store_reached, stuck, write_reached}
use Rattle.a32_runs.proofs.worked_runs.threads_that_go_on.Goals as goal

pub returns-clause-begins : goal.returns-clause-begins
returns-clause-begins c = begins

pub returns-clause-loads : goal.returns-clause-loads
returns-clause-loads c = load_reached

pub returns-clause-stores : goal.returns-clause-stores
returns-clause-stores c = store_reached

pub returns-clause-yields : goal.returns-clause-yields
returns-clause-yields c =
    subst (λ m. Reaches a32 calling 1 (thread_at 0 5 0 0 158) [] m 1 []) (call_returned 5 0 0 158 0)
    (returns [] (thread_at 0 5 0 0 158) 0 [] (call 158 5 0 0) 0 begins (lit< tt) (call_next 5 0 0 158) refl refl)

pub returns-clause-writes : goal.returns-clause-writes
returns-clause-writes c = write_reached

pub returns-clause-from_a_point : goal.returns-clause-from_a_point
returns-clause-from_a_point c =
    subst
    (λ m. ReachesFrom a32 calling 8 (record { machine = thread_at 0 5 0 0 158; steps = 7; output = 104 ∷ [] }) [] m 8 (104 ∷ []))
    (call_returned 5 0 0 158 0)
    (returns [] (thread_at 0 5 0 0 158) 7 (104 ∷ []) (call 158 5 0 0) 0 begins (lit< tt) (call_next 5 0 0 158) refl refl)

pub returns-clause-not_by_exit : goal.returns-clause-not_by_exit
returns-clause-not_by_exit c = λ machine reached.
    let wrong : Exit 5 ≡ Budget = (one_end_of_list a32 calling 1 _ [] (Exit 5) Budget 1 1 [] [] exit_left (spends [] machine [] reached)).0 in cc

pub returns-clause-not_without_a_reply : goal.returns-clause-not_without_a_reply
returns-clause-not_without_a_reply c = λ machine reached.
    asks_or_ends a32 loading 1 _ [] _ Budget 1 [] load_asked (spends [] machine [] reached)

pub returns-clause-not_beyond_the_budget : goal.returns-clause-not_beyond_the_budget
returns-clause-not_beyond_the_budget c = λ machine reached.
    let wrong : 1 ≡ 0 = stuck calling _ machine [] 1 [] reached in absurd (omega (arith, wrong))
