-- Accesses have one verdict.
use Rattle.std.proofs.Common.{◌≡◌, [], ◌∷◌, refl}
use Rattle.history.proofs.SmallMemory.{apart}
use Rattle.a32_runs.specs.Verdicts.{leaving, loading, small_machine}
use Rattle.run_checker.specs.declared.verdicts.Reason.TheVariants.{NotAsked, Unfinished, WrongValue}
use Rattle.run_checker.specs.declared.verdicts.Verdict.TheVariants.{Bad, Good}
use Rattle.run_checker.proofs.Right.{one_verdict}
use Rattle.a32_runs.proofs.SmallJudgements.{bad_at_once, good_at_once, still_asks}
use Rattle.a32_runs.proofs.SmallVerdicts.{bad_load}
use Rattle.a32_runs.proofs.worked_verdicts.verdicts_that_are_not_theirs.Goals as goal
use Rattle.a32_step.specs.Machine.{a32}

pub returns-clause-none_bad : goal.returns-clause-none_bad
returns-clause-none_bad c = λ judges.
    let same : Good ≡ Bad 0 Unfinished = one_verdict a32 leaving small_machine 10 [] Good (Bad 0 Unfinished) good_at_once judges in cc

pub returns-clause-unfinished_good : goal.returns-clause-unfinished_good
returns-clause-unfinished_good c = λ judges.
    let same : Bad 0 Unfinished ≡ Good = one_verdict a32 loading small_machine 10 [] (Bad 0 Unfinished) Good still_asks judges in cc

pub returns-clause-wrong_good : goal.returns-clause-wrong_good
returns-clause-wrong_good c = λ judges.
    let same : Bad 0 WrongValue ≡ Good = one_verdict a32 loading small_machine 10 (bad_load ∷ []) (Bad 0 WrongValue) Good bad_at_once judges in cc

pub returns-clause-another_index : goal.returns-clause-another_index
returns-clause-another_index c = λ judges.
    let same : Bad 0 WrongValue ≡ Bad 1 WrongValue = one_verdict a32 loading small_machine 10 (bad_load ∷ []) (Bad 0 WrongValue) (Bad 1 WrongValue) bad_at_once judges in
    let indexes : 0 ≡ 1 = cc in
    apart 0 1 refl indexes

pub returns-clause-another_reason : goal.returns-clause-another_reason
returns-clause-another_reason c = λ judges.
    let same : Bad 0 WrongValue ≡ Bad 0 NotAsked = one_verdict a32 loading small_machine 10 (bad_load ∷ []) (Bad 0 WrongValue) (Bad 0 NotAsked) bad_at_once judges in
    let reasons : WrongValue ≡ NotAsked = cc in cc
