use Rattle.std.proofs.Common.{[], ◌∷◌, refl}
use Rattle.a32_runs.specs.Verdicts.{leaving, loading, small_machine}
use Rattle.run_checker.specs.declared.verdicts.Reason.TheVariants.{AfterStop, WrongValue}
use Rattle.run_checker.proofs.Right.{right_none, wrong_or_right}
use Rattle.a32_runs.proofs.SmallVerdicts.{bad_load, left_behind, load, one_right, wrong_value}
use Rattle.a32_runs.proofs.worked_verdicts.lists_of_right_accesses.Goals as goal
use Rattle.a32_step.specs.Machine.{a32}

pub returns-clause-none : goal.returns-clause-none
returns-clause-none c = right_none a32 leaving small_machine 10

pub returns-clause-one : goal.returns-clause-one
returns-clause-one c = one_right

pub returns-clause-first_wrong : goal.returns-clause-first_wrong
returns-clause-first_wrong c = λ are. wrong_or_right a32 loading small_machine 10 [] bad_load WrongValue wrong_value (are [] (load ∷ []) bad_load refl)

pub returns-clause-last_wrong : goal.returns-clause-last_wrong
returns-clause-last_wrong c = λ are. wrong_or_right a32 loading small_machine 10 (load ∷ []) load AfterStop left_behind (are (load ∷ []) [] load refl)
