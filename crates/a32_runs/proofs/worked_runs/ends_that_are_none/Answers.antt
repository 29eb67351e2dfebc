use Rattle.std.proofs.Common.{◌≡◌, ℕ, [], arith}
use Rattle.llsc_base.specs.declared.outside.Stop.TheVariants.{Budget, Exit, Outside}
use Rattle.a32_step.specs.Machine.{a32}
use Rattle.a32_runs.specs.OneWord.{calling, loading}
use Rattle.guest_calls.proofs.Asked.{asks_or_ends}
use Rattle.guest_calls.proofs.Listed.{one_end_of_list}
use Rattle.a32_runs.proofs.SmallRuns.{exit_left, load_asked, outside_stopped, second_byte_asked, spent_at_once}
use Rattle.a32_runs.proofs.worked_runs.ends_that_are_none.Goals as goal

-- two exits are one only with one code
same_code : (code other : ℕ) → Exit code ≡ Exit other → code ≡ other
same_code code other same = cc

pub returns-clause-no_step : goal.returns-clause-no_step
returns-clause-no_step c = λ ends.
    let wrong : 1 ≡ 0 = (one_end_of_list a32 calling 1 _ [] (Exit 5) (Exit 5) 1 0 [] [] exit_left ends).1 in absurd (omega (arith, wrong))

pub returns-clause-another_code : goal.returns-clause-another_code
returns-clause-another_code c = λ ends.
    let wrong : Exit 5 ≡ Exit 6 = (one_end_of_list a32 calling 1 _ [] (Exit 5) (Exit 6) 1 1 [] [] exit_left ends).0 in
    absurd (omega (arith, same_code 5 6 wrong))

pub returns-clause-a_step : goal.returns-clause-a_step
returns-clause-a_step c = λ ends.
    let wrong : 0 ≡ 1 = (one_end_of_list a32 calling 1 _ [] (Outside 4) (Outside 4) 0 1 [] [] outside_stopped ends).1 in absurd (omega (arith, wrong))

pub returns-clause-leaves_too_late : goal.returns-clause-leaves_too_late
returns-clause-leaves_too_late c = λ ends.
    let wrong : Budget ≡ Exit 5 = (one_end_of_list a32 calling 0 _ [] Budget (Exit 5) 0 1 [] [] (spent_at_once calling _) ends).0 in cc

pub returns-clause-stops_too_late : goal.returns-clause-stops_too_late
returns-clause-stops_too_late c = λ ends.
    let wrong : Budget ≡ Outside 4 = (one_end_of_list a32 calling 0 _ [] Budget (Outside 4) 0 0 [] [] (spent_at_once calling _) ends).0 in cc

pub returns-clause-spent_too_early : goal.returns-clause-spent_too_early
returns-clause-spent_too_early c = λ ends.
    let wrong : Exit 5 ≡ Budget = (one_end_of_list a32 calling 1 _ [] (Exit 5) Budget 1 0 [] [] exit_left ends).0 in cc

pub returns-clause-asks : goal.returns-clause-asks
returns-clause-asks c = λ stop steps output ends. asks_or_ends a32 loading 1 _ [] _ stop steps output load_asked ends

pub returns-clause-asks_a_byte : goal.returns-clause-asks_a_byte
returns-clause-asks_a_byte c = λ stop steps output ends. asks_or_ends a32 calling 1 _ _ _ stop steps output second_byte_asked ends
