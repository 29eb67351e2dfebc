-- What is known of each thread, by its number.
use Rattle.std.proofs.Common.{◌≡◌, ◌≢◌, ℕ, ◌+◌, ◌<◌, inl, inr, Result, Ok, Err, IfOk, IfErr, List, [], ◌∷◌, ◌++◌, length, set, get_or, sym, subst, length-append, length-set, arith}
use Rattle.std.proofs.lemmas.Bool.{cases_eq, cases_lt}
use Rattle.std.proofs.lemmas.List.{get_or_append_left, get_or_push, get_or-set_same, get_or-set_other}
use Rattle.std.specs.Vec.{with_item}
use Rattle.llsc_base.specs.Images.{Program}
use Rattle.llsc_base.specs.Sizes.{Numbers}
use Rattle.history.specs.Monitor.{Monitor}
use Rattle.history.specs.declared.entry.Access.{Access}
use Rattle.guest_thread.specs.ThreadState.{ThreadStateOf, thread_in}
use Rattle.guest_thread.specs.Start.{thread_start}
use Rattle.guest_thread.specs.Under.{HasCome}
use Rattle.run_checker.specs.inner.Positions.{AreBrought, BringsOn, IsBrought}
use Rattle.run_checker.specs.declared.checker.Checker.{Checker}
use Rattle.run_checker.specs.declared.sightings.Sighting.{Sighting}
use Rattle.guest_thread.proofs.Pushed.{other_push}
use Rattle.guest_core.specs.Machine.{MachineOf, InstructionSet}

-- a fact of each element, by its index
abbrev pub EachAt : {X : Type 0} → (ℕ → X → Type 0) → List X → Type 0
EachAt {X} P xs = (k : ℕ) (d : X) → k < length xs → P k (get_or xs k d)

-- with one more element
pub at_push : {X : Type 0} (P : ℕ → X → Type 0) (xs : List X) (y : X) → EachAt P xs → P (length xs) y → EachAt P (xs ++ y ∷ [])
at_push P xs y each last k d less =
    let long : length (xs ++ y ∷ []) ≡ length xs + 1 = length-append xs (y ∷ []) in
    elim (cases_lt k (length xs)) [
      | inl inside ↦ subst (λ v. P k v) (sym (get_or_append_left xs (y ∷ []) d k inside)) (each k d inside)
      | inr past ↦
          let same : length xs ≡ k = omega (arith, long, less, past) in
          subst (λ v. P k v) (sym (get_or_push xs y d k same)) (subst (λ n. P n y) same last)
    ]

-- with one element changed
pub at_set : {X : Type 0} (P Q : ℕ → X → Type 0) (xs : List X) (i : ℕ) (y : X)
    → EachAt P xs → ((k : ℕ) (x : X) → k ≢ i → P k x → Q k x) → Q i y → EachAt Q (set xs i y)
at_set P Q xs i y each others own k d less =
    let inside : k < length xs = subst (λ n. k < n) (length-set xs i y) less in
    elim (cases_eq k i) [
      | inl same ↦
          let here : i < length xs = subst (λ n. n < length xs) same inside in
          subst (λ n. Q n (get_or (set xs i y) n d)) (sym same) (subst (λ v. Q i v) (sym (get_or-set_same xs i y d here)) own)
      | inr apart ↦ subst (λ v. Q k v) (sym (get_or-set_other xs i k y d apart)) (others k (get_or xs k d) apart (each k d inside))
    ]

-- what follows for an answer, and for an error
pub weaker_ok : {X Y : Type 0} (r : Result X Y) (P Q : X → Type 0) → ((x : X) → P x → Q x) → IfOk r P → IfOk r Q
weaker_ok (Ok x) P Q more known = more x known
weaker_ok (Err y) P Q more known = tt

pub weaker_err : {X Y : Type 0} (r : Result X Y) (P Q : Y → Type 0) → ((y : Y) → P y → Q y) → IfErr r P → IfErr r Q
weaker_err (Ok x) P Q more known = tt
weaker_err (Err y) P Q more known = more y known

module _ {I S : Type 0} (set : InstructionSet I S) {C R : Type 0} (machine : C → MachineOf I S) where
  -- a thread that was taken out of the others
  pub taken : (program : Program) (size : Numbers) (budget : ℕ) (early : List Access) (checker : Checker C R) (t : ℕ) (guest : ThreadStateOf C)
      → AreBrought set machine program size budget early checker → t < length checker.guests.items → guest ≡ get_or checker.guests.items t guest
      → IsBrought set machine program size budget early t guest
  taken program size budget early checker t guest brought known is =
      subst (IsBrought set machine program size budget early t) (sym is) (brought.guests t guest known)

  -- an access that brings its thread and memory on brings all of them on
  pub all_brought : (program : Program) (size : Numbers) (budget : ℕ) (early : List Access) (access : Access) (sighting : Sighting) (checker : Checker C R) (guest : ThreadStateOf C) (memory : Monitor)
      → AreBrought set machine program size budget early checker → BringsOn set machine program size budget early access sighting guest memory
      → AreBrought set machine {R = R} program size budget (early ++ access ∷ []) (record { guests = with_item checker.guests access.thread guest; memory = memory })
  all_brought program size budget early access sighting checker guest memory brought step = record {
    guests =
        at_set (IsBrought set machine program size budget early) (IsBrought set machine program size budget (early ++ access ∷ [])) checker.guests.items access.thread guest brought.guests
        (λ k other apart come. subst (λ pairs. HasCome set program budget (thread_start set program size size.threads k) pairs (thread_in machine other)) (sym (other_push k early access (λ same. apart (sym same)))) come)
        step.brought;
    memory = step.left;
  }
