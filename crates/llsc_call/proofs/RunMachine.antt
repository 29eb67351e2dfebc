-- The machine of a run: where it can be it is made of its own numbers, and else of some that are refused as they are.
use Rattle.std.proofs.Common.{◌≡◌, ◌+◌, ◌*◌, ◌≤◌, ℕ, zero, suc, List, Option, Some, None, arith, refl, sym, ◌∙◌, ap, subst}
use Rattle.std.proofs.Math.Nat.{le-mul_of_pos_right, mul-le-mul_right, zero-mul}
use Rattle.std.specs.Option.{option_map, option_or}
use Rattle.llsc_base.specs.Sizes.{Numbers, size_fault, size_fault_name}
use Rattle.llsc_base.specs.declared.sizes.SizeFault.{SizeFault}
use Rattle.llsc_words.specs.declared.formats.Format.{Format}
use Rattle.llsc_words.specs.declared.sets.SetName.{SetName}
use Rattle.llsc_words.specs.declared.requests.RunNumbers.{RunNumbers}
use Rattle.llsc_words.specs.Request.{size_of_run}
use Rattle.llsc_words.proofs.Counted.{few_threads}
use Rattle.llsc_files.specs.declared.files.Loaded.{Loaded}
use Rattle.llsc_files.specs.Programs.{IsLoadedAs, program_refusal_as, refusal_as}
use Rattle.llsc_files.specs.Refusals.{most_program, too_long}

-- a program is refused by the fault of its machine
by_fault : (set : SetName) (format : Format) (size : Numbers) (file : List ℕ) (fault : SizeFault) → size_fault size ≡ Some fault
    → program_refusal_as set format size file ≡ Some (size_fault_name fault)
by_fault set format size file fault is =
    ap (λ (f : Option SizeFault). option_or (option_map size_fault_name f) (option_or (too_long most_program file) (refusal_as set format size file))) is

-- and where it isn't refused that has none
no_fault : (fault : Option SizeFault) (rest : Option (List ℕ)) → option_or (option_map size_fault_name fault) rest ≡ None → fault ≡ None
no_fault None rest sound = refl
no_fault (Some fault) rest sound = absurd (let f : ⊥ = cc in f)

pub sound_size : (set : SetName) (format : Format) (size : Numbers) (file : List ℕ) → program_refusal_as set format size file ≡ None → size_fault size ≡ None
sound_size set format size file sound = no_fault (size_fault size) (option_or (too_long most_program file) (refusal_as set format size file)) sound

-- a machine that was made has the fault of the one that was wanted, and is that one where it has none: a program is refused on it
-- as there, or is loaded on that one
pub refused_alike : (set : SetName) (format : Format) (made wanted : Numbers) (file : List ℕ) → size_fault made ≡ size_fault wanted → (size_fault wanted ≡ None → made ≡ wanted)
    → program_refusal_as set format made file ≡ program_refusal_as set format wanted file
refused_alike set format made wanted file alike same = by_wanted (size_fault wanted) refl
  where
    by_wanted : (fault : Option SizeFault) → size_fault wanted ≡ fault → program_refusal_as set format made file ≡ program_refusal_as set format wanted file
    by_wanted None is = ap (λ (n : Numbers). program_refusal_as set format n file) (same is)
    by_wanted (Some fault) is = by_fault set format made file fault (alike ∙ is) ∙ sym (by_fault set format wanted file fault is)

pub loaded_alike : (set : SetName) (format : Format) (made wanted : Numbers) (file : List ℕ) (loaded : Loaded) → size_fault made ≡ size_fault wanted
    → (size_fault wanted ≡ None → made ≡ wanted) → IsLoadedAs set format made file loaded → IsLoadedAs set format wanted file loaded
loaded_alike set format made wanted file loaded alike same had =
    subst (λ (n : Numbers). IsLoadedAs set format n file loaded) (same (sym alike ∙ sound_size set format made file had.sound)) had

-- where all threads are as many as a machine has, there is a first one, and few begin and few may be started
both_few : (first spare : ℕ) → 1 ≤ first * (1 + spare) → first * (1 + spare) ≤ 16 → (1 ≤ first) × (first ≤ 16) × (spare ≤ 16)
both_few zero spare some few = absurd (let none : 0 * (1 + spare) ≡ 0 = zero-mul (1 + spare) in let f : ⊥ = omega arith in f)
both_few (suc n) spare some few =
    let least : suc n ≤ suc n * (1 + spare) = le-mul_of_pos_right (suc n) (omega arith) in
    let each : 1 * (1 + spare) ≤ suc n * (1 + spare) = mul-le-mul_right (1 + spare) (omega arith) in
    (omega arith, omega arith, omega arith)

pub run_few : (n : RunNumbers) → size_fault (size_of_run n) ≡ None → (1 ≤ n.machine.threads) × (n.machine.threads ≤ 16) × (n.spare ≤ 16)
run_few n sound =
    let few = few_threads (size_of_run n) sound in
    both_few n.machine.threads n.spare few.0 few.1
