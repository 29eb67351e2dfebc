use Rattle.std.proofs.Common.{◌≡◌, [], refl, arith}
use Rattle.llsc_base.specs.declared.outside.Ask.TheVariants.{Load}
use Rattle.llsc_base.specs.declared.outside.Stop.TheVariants.{Budget, Exit}
use Rattle.a32_step.specs.Machine.{a32}
use Rattle.guest_calls.proofs.Asked.{asks_or_ends}
use Rattle.guest_calls.proofs.Listed.{one_end_of_list}
use Rattle.guest_thread.specs.Worked.{machine_of, word}
use Rattle.a32_runs.specs.Leaving.{leaving, loading}
use Rattle.a32_runs.proofs.SmallEnds.{same_code}
use Rattle.a32_runs.proofs.LeavingRuns.{left, load_asked, load_spent}
use Rattle.a32_runs.proofs.worked_ends.ends_of_a_thread.Goals as goal

pub returns-clause-leaves : goal.returns-clause-leaves
returns-clause-leaves c = record { ends = left (machine_of 2 1 1) 2 1; counts = record { reads = refl; writes = refl; fails = refl } }

pub returns-clause-spends : goal.returns-clause-spends
returns-clause-spends c = record { ends = load_spent (machine_of 2 1 1) 2 0; counts = record { reads = refl; writes = refl; fails = refl } }

pub returns-clause-another_code : goal.returns-clause-another_code
returns-clause-another_code c = λ end.
    let wrong : Exit 1 ≡ Exit 0 = (one_end_of_list a32 leaving 2 _ [] (Exit 1) (Exit 0) 2 2 [] [] (left (machine_of 2 1 1) 2 1) end.ends).0 in
    absurd (omega (arith, same_code 1 0 wrong))

pub returns-clause-a_step_less : goal.returns-clause-a_step_less
returns-clause-a_step_less c = λ end.
    let wrong : 2 ≡ 1 = (one_end_of_list a32 leaving 2 _ [] (Exit 1) (Exit 1) 2 1 [] [] (left (machine_of 2 1 1) 2 1) end.ends).1 in
    absurd (omega (arith, wrong))

pub returns-clause-a_read_more : goal.returns-clause-a_read_more
returns-clause-a_read_more c = λ end. let wrong : 1 ≡ 0 = end.counts.reads in absurd (omega (arith, wrong))

pub returns-clause-asks : goal.returns-clause-asks
returns-clause-asks c = λ end. asks_or_ends a32 loading 1 _ [] (Load word) Budget 1 [] (load_asked (machine_of 2 1 1) 2 0) end.ends
