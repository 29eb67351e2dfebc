-- The accesses of the program that takes its word.
use Rattle.std.proofs.Common.{◌≡◌, true, false, [], ◌∷◌, arith, refl, subst}
use Rattle.llsc_base.specs.Memory.{bytes_of, number_of, row_of}
use Rattle.history.specs.declared.entry.Access.{Access}
use Rattle.history.specs.declared.entry.Deed.TheVariants as deed
use Rattle.history.proofs.SmallMemory.{apart}
use Rattle.llsc_base.specs.declared.outside.Ask.TheVariants.{Load, LoadEx, StoreEx}
use Rattle.llsc_base.specs.declared.outside.Stop.TheVariants.{Exit}
use Rattle.guest_thread.specs.Ended.{HasEnded}
use Rattle.run_checker.specs.Verdict.{IsRight, IsWrong, Judges, good}
use Rattle.run_checker.specs.Worked.{access_as, word}
use Rattle.a32_runs.specs.Verdicts.{small_machine, taking}
use Rattle.run_checker.specs.declared.verdicts.Reason.TheVariants.{WrongValue}
use Rattle.run_checker.specs.declared.verdicts.Verdict.TheVariants.{Good}
use Rattle.run_checker.proofs.Right.{right_none, right_push}
use Rattle.a32_runs.proofs.CheckedRuns.{asks_again, asks_first, asks_to_take, leaves_after_all}
use Rattle.a32_step.specs.Machine.{a32}

abbrev first : Access
first = access_as deed.LoadEx word 0

abbrev taken : Access
taken = access_as deed.StoreEx word 1

abbrev failed : Access
failed = access_as deed.StoreFail word 1

first_right : IsRight a32 taking small_machine 10 [] first
unfolding number_of
first_right = record {
  ask = LoadEx word;
  next = asks_first 0;
  asked = refl;
  value = λ wrong. wrong.1 refl;
  reserved = λ lacks. let other : deed.LoadEx ≡ deed.StoreEx = lacks.0 in cc;
}

pub taken_right : IsRight a32 taking small_machine 10 (first ∷ []) taken
unfolding row_of
taken_right = record {
  ask = StoreEx word 1;
  next = asks_to_take 0;
  asked = refl;
  value = λ wrong. let other : false ≡ true = wrong.0 in cc;
  reserved = λ lacks. let other : true ≡ false = lacks.1 in cc;
}

pub failed_right : IsRight a32 taking small_machine 10 (first ∷ []) failed
failed_right = record {
  ask = StoreEx word 1;
  next = asks_to_take 0;
  asked = refl;
  value = λ wrong. let other : false ≡ true = wrong.0 in cc;
  reserved = λ lacks. let other : deed.StoreFail ≡ deed.StoreEx = lacks.0 in cc;
}

-- what was stored is loaded, and not what was there before
pub stored_right : IsRight a32 taking small_machine 10 (first ∷ taken ∷ []) (access_as deed.Load word 1)
unfolding number_of bytes_of
stored_right = record {
  ask = Load word;
  next = asks_again 0 0;
  asked = refl;
  value = λ wrong. wrong.1 refl;
  reserved = λ lacks. let other : deed.Load ≡ deed.StoreEx = lacks.0 in cc;
}

pub stale : IsWrong a32 taking small_machine 10 (first ∷ taken ∷ []) (access_as deed.Load word 0) WrongValue
unfolding number_of bytes_of
stale = (Load word, (asks_again 0 0, refl, (refl, λ same. apart 0 1 refl same)))

-- behind a store that failed it is the other way round
pub kept_right : IsRight a32 taking small_machine 10 (first ∷ failed ∷ []) (access_as deed.Load word 0)
unfolding number_of
kept_right = record {
  ask = Load word;
  next = asks_again 0 1;
  asked = refl;
  value = λ wrong. wrong.1 refl;
  reserved = λ lacks. let other : deed.Load ≡ deed.StoreEx = lacks.0 in cc;
}

pub not_stored : IsWrong a32 taking small_machine 10 (first ∷ failed ∷ []) (access_as deed.Load word 1) WrongValue
unfolding number_of
not_stored = (Load word, (asks_again 0 1, refl, (refl, λ same. apart 1 0 refl same)))

-- all of them are a run
left : HasEnded a32 taking small_machine 10 (first ∷ taken ∷ access_as deed.Load word 1 ∷ []) 0
left = record { stop = Exit 0; steps = 5; output = []; ends = leaves_after_all 0 }

pub all_good : Judges a32 taking small_machine 10 (first ∷ taken ∷ access_as deed.Load word 1 ∷ []) Good
all_good = good
    (right_push a32 taking small_machine 10 (first ∷ taken ∷ []) (access_as deed.Load word 1)
    (right_push a32 taking small_machine 10 (first ∷ []) taken (right_push a32 taking small_machine 10 [] first (right_none a32 taking small_machine 10) first_right) taken_right)
    stored_right)
    (λ t known. subst (λ n. HasEnded a32 taking small_machine 10 (first ∷ taken ∷ access_as deed.Load word 1 ∷ []) n) (let same : 0 ≡ t = omega (arith, known) in same) left)
