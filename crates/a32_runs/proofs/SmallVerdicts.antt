-- Accesses of the small programs that are right, and those that are wrong.
use Rattle.std.proofs.Common.{◌≡◌, ℕ, ◌%◌, ◌<◌, true, false, [], ◌∷◌, arith, refl, subst}
use Rattle.llsc_base.specs.Memory.{number_of}
use Rattle.history.specs.declared.entry.Access.{Access}
use Rattle.history.specs.declared.entry.Deed.TheVariants as deed
use Rattle.history.proofs.SmallMemory.{apart}
use Rattle.llsc_base.specs.declared.outside.Ask.TheVariants.{Load, StoreEx}
use Rattle.llsc_base.specs.declared.outside.Stop.TheVariants.{Exit}
use Rattle.guest_thread.specs.Ended.{HasEnded}
use Rattle.run_checker.specs.Verdict.{AreRight, IsRight, IsWrong}
use Rattle.run_checker.specs.Worked.{access_as, word}
use Rattle.a32_runs.specs.Verdicts.{leaving, loading, small_machine, storing}
use Rattle.run_checker.specs.declared.verdicts.Reason.TheVariants.{NotAsked, WrongValue, NoReservation}
use Rattle.run_checker.proofs.Right.{right_none, right_push}
use Rattle.a32_runs.proofs.CheckedRuns.{asks_load, asks_store, leaves_after_load, leaves_at_once}
use Rattle.a32_step.specs.Machine.{a32}

-- the load of memory's value, and one of another value
abbrev pub load : Access
load = access_as deed.Load word 0

abbrev pub bad_load : Access
bad_load = access_as deed.Load word 5

-- each thread that leaves at once has ended, and so has each that has loaded
pub left : (t : ℕ) → HasEnded a32 leaving small_machine 10 [] t
left t = record { stop = Exit (t % 256); steps = 2; output = []; ends = leaves_at_once t }

pub left_behind : HasEnded a32 loading small_machine 10 (load ∷ []) 0
left_behind = record { stop = Exit 0; steps = 3; output = []; ends = leaves_after_load 0 }

pub each_left_behind : (t : ℕ) → t < 1 → HasEnded a32 loading small_machine 10 (load ∷ []) t
each_left_behind t known = subst (λ n. HasEnded a32 loading small_machine 10 (load ∷ []) n) (let same : 0 ≡ t = omega (arith, known) in same) left_behind

-- right ones
pub load_right : IsRight a32 loading small_machine 10 [] load
unfolding number_of
load_right = record {
  ask = Load word;
  next = asks_load 0;
  asked = refl;
  value = λ wrong. wrong.1 refl;
  reserved = λ lacks. let other : deed.Load ≡ deed.StoreEx = lacks.0 in cc;
}

pub failed_right : IsRight a32 storing small_machine 10 [] (access_as deed.StoreFail word 1)
failed_right = record {
  ask = StoreEx word 1;
  next = asks_store 0;
  asked = refl;
  value = λ wrong. let other : false ≡ true = wrong.0 in cc;
  reserved = λ lacks. let other : deed.StoreFail ≡ deed.StoreEx = lacks.0 in cc;
}

pub one_right : AreRight a32 loading small_machine 10 (load ∷ [])
one_right = right_push a32 loading small_machine 10 [] load (right_none a32 loading small_machine 10) load_right

-- wrong ones
pub not_asked : IsWrong a32 loading small_machine 10 [] (access_as deed.LoadEx word 0) NotAsked
not_asked = (Load word, (asks_load 0, refl))

pub wrong_value : IsWrong a32 loading small_machine 10 [] bad_load WrongValue
unfolding number_of
wrong_value = (Load word, (asks_load 0, refl, (refl, λ same. apart 5 0 refl same)))

pub no_reservation : IsWrong a32 storing small_machine 10 [] (access_as deed.StoreEx word 1) NoReservation
no_reservation = (StoreEx word 1, (asks_store 0, refl, (refl, refl)))
