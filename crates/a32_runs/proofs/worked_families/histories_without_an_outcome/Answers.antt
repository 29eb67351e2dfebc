use Rattle.std.proofs.Common.{◌≡◌, ◌<◌, [], refl, lit≤, arith}
use Rattle.llsc_base.specs.Memory.{number_of}
use Rattle.history.specs.Standing.{looked, rests}
use Rattle.history.specs.Started.{starts_of}
use Rattle.history.specs.declared.entry.Entry.TheVariants.{Clear, Start}
use Rattle.history.proofs.Born.{may-not_act}
use Rattle.history.proofs.Operations.{last_stage-AreFinished}
use Rattle.history.proofs.SmallHistories.{not_begun}
use Rattle.guest_thread.specs.Worked.{word}
use Rattle.a32_runs.proofs.worked_families.histories_without_an_outcome.Goals as goal

pub returns-clause-another_memory : goal.returns-clause-another_memory
unfolding number_of
returns-clause-another_memory c = λ ends outcome. let wrong : 7 ≡ 0 = outcome.legal.accesses.0.1 in absurd (omega (arith, wrong))

pub returns-clause-not_legal : goal.returns-clause-not_legal
returns-clause-not_legal c = λ ends outcome.
    let whole = (outcome.legal.operations 0).finished in
    not_begun 0 word 9 _ _ whole.operations whole.are

pub returns-clause-not_complete : goal.returns-clause-not_complete
returns-clause-not_complete c = λ ends outcome.
    let wrong : looked word ≡ rests = last_stage-AreFinished 0 _ (outcome.complete 0) in cc

pub returns-clause-not_started : goal.returns-clause-not_started
returns-clause-not_started c = λ ends outcome. may-not_act 1 1 [] (lit≤ tt) refl (outcome.born [] (Clear 1) [] refl)

pub returns-clause-none_spare : goal.returns-clause-none_spare
returns-clause-none_spare c = λ ends outcome. let none : starts_of 0 [] < 0 = (outcome.born [] (Start 0 1 0 1) [] refl).1 in absurd (omega arith)
