use Rattle.std.proofs.Common.{◌≡◌, ◌<◌, [], refl, arith}
use Rattle.llsc_base.specs.Memory.{number_of}
use Rattle.history.specs.Cause.{HasCause}
use Rattle.history.specs.Standing.{looked, rests}
use Rattle.history.specs.Started.{MayStand, starts_of}
use Rattle.history.specs.declared.entry.Entry.TheVariants.{Start}
use Rattle.history.proofs.Cuts.{each-none}
use Rattle.history.proofs.Operations.{last_stage-AreFinished}
use Rattle.history.proofs.SmallHistories.{not_begun}
use Rattle.llsc_base.specs.declared.outside.Stop.TheVariants.{Exit}
use Rattle.a32_step.specs.Machine.{a32}
use Rattle.guest_calls.specs.Run.{by_itself}
use Rattle.guest_calls.proofs.Asked.{one_end_on}
use Rattle.guest_thread.specs.Worked.{end_of, machine_of, word}
use Rattle.a32_runs.specs.Leaving.{leaving}
use Rattle.a32_runs.proofs.SmallEnds.{both_ends_on, same_code}
use Rattle.a32_runs.proofs.LeavingRuns.{left}
use Rattle.a32_runs.proofs.worked_ends.outcomes.Goals as goal

pub returns-clause-outcome : goal.returns-clause-outcome
returns-clause-outcome c = record {
  legal = record {
    accesses = tt;
    operations = λ thread. record { missing = []; finished = record { operations = []; are = refl } };
    causes = each-none (HasCause (machine_of 2 1 1));
  };
  complete = λ thread. record { operations = []; are = refl };
  born = each-none (MayStand 2 0);
  ends = both_ends_on;
}

pub returns-clause-another_number : goal.returns-clause-another_number
returns-clause-another_number c = λ outcome.
    let wrong : 1 ≡ 0 = outcome.ends.numbers 0 (end_of 1 (Exit 0) 2 0 0 0) refl in absurd (omega (arith, wrong))

pub returns-clause-one_missing : goal.returns-clause-one_missing
returns-clause-one_missing c = λ outcome. let wrong : 1 ≡ 2 = outcome.ends.many in absurd (omega (arith, wrong))

pub returns-clause-another_end : goal.returns-clause-another_end
returns-clause-another_end c = λ outcome.
    let end = outcome.ends.each 1 (end_of 1 (Exit 0) 2 0 0 0) refl in
    let ends = by_itself [] (Exit 1) 2 [] (left (machine_of 2 1 1) 2 1) in
    let wrong : Exit 1 ≡ Exit 0 = (one_end_on a32 leaving 2 _ [] (Exit 1) (Exit 0) 2 2 [] [] ends end.ends).0 in
    absurd (omega (arith, same_code 1 0 wrong))

pub returns-clause-another_memory : goal.returns-clause-another_memory
unfolding number_of
returns-clause-another_memory c = λ ends outcome. let wrong : 7 ≡ 0 = outcome.legal.accesses.0.1 in absurd (omega (arith, wrong))

pub returns-clause-not_legal : goal.returns-clause-not_legal
returns-clause-not_legal c = λ ends outcome.
    let whole = (outcome.legal.operations 0).finished in
    not_begun 0 word 9 _ _ whole.operations whole.are

pub returns-clause-not_complete : goal.returns-clause-not_complete
returns-clause-not_complete c = λ ends outcome.
    let wrong : looked word ≡ rests = last_stage-AreFinished 0 _ (outcome.complete 0) in cc

pub returns-clause-one_started : goal.returns-clause-one_started
returns-clause-one_started c = λ ends outcome. let none : starts_of 0 [] < 0 = (outcome.born [] (Start 0 2 0 0) [] refl).1 in absurd (omega arith)
