-- What is wrong isn't right.
use Rattle.std.proofs.Common.{[], ◌∷◌}
use Rattle.history.specs.declared.entry.Deed.TheVariants as deed
use Rattle.run_checker.specs.Worked.{access_as, word}
use Rattle.a32_runs.specs.Verdicts.{leaving, loading, small_machine, storing}
use Rattle.run_checker.specs.declared.verdicts.Reason.TheVariants.{AfterStop, NotAsked, NoReservation, WrongValue}
use Rattle.run_checker.proofs.Right.{wrong_or_right}
use Rattle.a32_runs.proofs.SmallVerdicts.{bad_load, failed_right, left, left_behind, load, load_right, no_reservation, not_asked, wrong_value}
use Rattle.a32_runs.proofs.worked_verdicts.right_accesses.Goals as goal
use Rattle.a32_step.specs.Machine.{a32}

pub returns-clause-load : goal.returns-clause-load
returns-clause-load c = load_right

pub returns-clause-failed : goal.returns-clause-failed
returns-clause-failed c = failed_right

pub returns-clause-another_value : goal.returns-clause-another_value
returns-clause-another_value c = λ right. wrong_or_right a32 loading small_machine 10 [] bad_load WrongValue wrong_value right

pub returns-clause-unmarked : goal.returns-clause-unmarked
returns-clause-unmarked c = λ right. wrong_or_right a32 storing small_machine 10 [] (access_as deed.StoreEx word 1) NoReservation no_reservation right

pub returns-clause-not_asked : goal.returns-clause-not_asked
returns-clause-not_asked c = λ right. wrong_or_right a32 loading small_machine 10 [] (access_as deed.LoadEx word 0) NotAsked not_asked right

pub returns-clause-after_its_stop : goal.returns-clause-after_its_stop
returns-clause-after_its_stop c = λ right. wrong_or_right a32 leaving small_machine 10 [] load AfterStop (left 0) right

pub returns-clause-again : goal.returns-clause-again
returns-clause-again c = λ right. wrong_or_right a32 loading small_machine 10 (load ∷ []) load AfterStop left_behind right
