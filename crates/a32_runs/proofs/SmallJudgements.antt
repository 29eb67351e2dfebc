-- Verdicts on accesses of the small programs.
use Rattle.std.proofs.Common.{[], ◌∷◌, lit<, refl}
use Rattle.llsc_base.specs.declared.outside.Ask.TheVariants.{Load}
use Rattle.run_checker.specs.Verdict.{Judges, good, unfinished, wrong}
use Rattle.run_checker.specs.Worked.{word}
use Rattle.a32_runs.specs.Verdicts.{leaving, loading, small_machine}
use Rattle.run_checker.specs.declared.verdicts.Reason.TheVariants.{AfterStop, Unfinished, WrongValue}
use Rattle.run_checker.specs.declared.verdicts.Verdict.TheVariants.{Bad, Good}
use Rattle.run_checker.proofs.Right.{right_none}
use Rattle.a32_runs.proofs.CheckedRuns.{asks_load}
use Rattle.a32_runs.proofs.SmallVerdicts.{bad_load, each_left_behind, left, left_behind, load, one_right, wrong_value}
use Rattle.a32_step.specs.Machine.{a32}

pub good_at_once : Judges a32 leaving small_machine 10 [] Good
good_at_once = good (right_none a32 leaving small_machine 10) (λ t known. left t)

pub good_load : Judges a32 loading small_machine 10 (load ∷ []) Good
good_load = good one_right each_left_behind

pub bad_at_once : Judges a32 loading small_machine 10 (bad_load ∷ []) (Bad 0 WrongValue)
bad_at_once = wrong [] [] bad_load WrongValue refl (right_none a32 loading small_machine 10) wrong_value

pub bad_later : Judges a32 loading small_machine 10 (load ∷ load ∷ []) (Bad 1 AfterStop)
bad_later = wrong (load ∷ []) [] load AfterStop refl one_right left_behind

pub still_asks : Judges a32 loading small_machine 10 [] (Bad 0 Unfinished)
still_asks = unfinished 0 (Load word) (right_none a32 loading small_machine 10) (lit< tt) (asks_load 0)
