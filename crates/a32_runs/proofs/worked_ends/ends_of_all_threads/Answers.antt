use Rattle.std.proofs.Common.{◌≡◌, [], refl, arith}
use Rattle.llsc_base.specs.declared.outside.Stop.TheVariants.{Exit}
use Rattle.a32_step.specs.Machine.{a32}
use Rattle.guest_calls.proofs.Listed.{one_end_of_list}
use Rattle.guest_thread.specs.Worked.{end_of, machine_of}
use Rattle.a32_runs.specs.Leaving.{leaving}
use Rattle.a32_runs.proofs.SmallEnds.{both_ends, end_0, end_1, same_code}
use Rattle.a32_runs.proofs.LeavingRuns.{left}
use Rattle.a32_runs.proofs.worked_ends.ends_of_all_threads.Goals as goal

pub returns-clause-ordered : goal.returns-clause-ordered
returns-clause-ordered c = both_ends

pub returns-clause-exchanged : goal.returns-clause-exchanged
returns-clause-exchanged c = λ ends. let wrong : 1 ≡ 0 = ends.numbers 0 end_1 refl in absurd (omega (arith, wrong))

pub returns-clause-one_missing : goal.returns-clause-one_missing
returns-clause-one_missing c = λ ends. let wrong : 1 ≡ 2 = ends.many in absurd (omega (arith, wrong))

pub returns-clause-one_twice : goal.returns-clause-one_twice
returns-clause-one_twice c = λ ends. let wrong : 0 ≡ 1 = ends.numbers 1 end_0 refl in absurd (omega (arith, wrong))

pub returns-clause-another_end : goal.returns-clause-another_end
returns-clause-another_end c = λ ends.
    let end = ends.each 1 (end_of 1 (Exit 0) 2 0 0 0) refl in
    let wrong : Exit 1 ≡ Exit 0 = (one_end_of_list a32 leaving 2 _ [] (Exit 1) (Exit 0) 2 2 [] [] (left (machine_of 2 1 1) 2 1) end.ends).0 in
    absurd (omega (arith, same_code 1 0 wrong))
