-- An access is wrong for one reason, and never wrong and right.
use Rattle.std.proofs.Common.{◌≡◌, []}
use Rattle.history.specs.declared.entry.Deed.TheVariants as deed
use Rattle.run_checker.specs.Worked.{access_as, word}
use Rattle.a32_runs.specs.Verdicts.{leaving, loading, small_machine, storing}
use Rattle.run_checker.specs.declared.verdicts.Reason.TheVariants.{AfterStop, NotAsked, WrongValue}
use Rattle.run_checker.proofs.Right.{one_reason, wrong_or_right}
use Rattle.a32_runs.proofs.SmallVerdicts.{bad_load, failed_right, left, load, load_right, not_asked, wrong_value}
use Rattle.a32_runs.proofs.worked_verdicts.accesses_wrong_for_no_other_reason.Goals as goal
use Rattle.a32_step.specs.Machine.{a32}

pub returns-clause-asked : goal.returns-clause-asked
returns-clause-asked c = λ wrongs.
    let same : WrongValue ≡ NotAsked = one_reason a32 loading small_machine 10 [] bad_load WrongValue NotAsked wrong_value wrongs in cc

pub returns-clause-not_stopped : goal.returns-clause-not_stopped
returns-clause-not_stopped c = λ wrongs.
    let same : NotAsked ≡ AfterStop = one_reason a32 loading small_machine 10 [] (access_as deed.LoadEx word 0) NotAsked AfterStop not_asked wrongs in cc

pub returns-clause-stopped : goal.returns-clause-stopped
returns-clause-stopped c = λ wrongs.
    let same : AfterStop ≡ WrongValue = one_reason a32 leaving small_machine 10 [] bad_load AfterStop WrongValue (left 0) wrongs in cc

pub returns-clause-right : goal.returns-clause-right
returns-clause-right c = λ why wrongs. wrong_or_right a32 loading small_machine 10 [] load why wrongs load_right

pub returns-clause-failed : goal.returns-clause-failed
returns-clause-failed c = λ why wrongs. wrong_or_right a32 storing small_machine 10 [] (access_as deed.StoreFail word 1) why wrongs failed_right
