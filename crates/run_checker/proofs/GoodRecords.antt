-- Accesses that Arm's memory and monitors allow, by which each thread has ended, are good.
use Rattle.std.proofs.Common.{◌≡◌, ◌≢◌, ℕ, ◌<◌, true, false, None, List, ◌∷◌, ◌++◌, length, map, refl, sym, ap, subst, ◌∙◌}
use Rattle.std.proofs.lemmas.Bool.{eq-eqb}
use Rattle.std.proofs.lemmas.List.{length-replicate, map-append}
use Rattle.llsc_base.specs.Memory.{row_of, value_at}
use Rattle.llsc_base.specs.Images.{Program}
use Rattle.llsc_base.specs.Sizes.{Numbers}
use Rattle.llsc_base.specs.declared.access.Place.{Place}
use Rattle.history.specs.Accesses.{entry_by, entry_of, history_of}
use Rattle.history.specs.ArmLegal.{IsArmLegal, MayAccess}
use Rattle.history.specs.Monitor.{Monitor, at_rest_by, is_on, marked_row}
use Rattle.history.specs.Parts.{accesses_of, entries_of}
use Rattle.history.specs.declared.entry.Access.{Access}
use Rattle.history.specs.declared.entry.Deed.{Deed}
use Rattle.history.specs.declared.entry.Deed.TheVariants as deed
use Rattle.history.specs.declared.entry.Entry.{Entry}
use Rattle.history.proofs.Appends.{IsArmLegal-back, IsArmLegal-front, accesses_of-append, entries_of-append}
use Rattle.history.proofs.Exclusives.{on_marked}
use Rattle.history.proofs.Marks.{IsAsLarge-monitor_after}
use Rattle.guest_calls.specs.Pairs.{pair_of, pairs_in, pairs_of}
use Rattle.guest_calls.specs.Run.{first_point}
use Rattle.guest_thread.specs.Accesses.{monitor_of}
use Rattle.guest_thread.specs.Ended.{HasEnded}
use Rattle.guest_thread.specs.Start.{thread_start}
use Rattle.run_checker.specs.Verdict.{AreRight, Judges, fits, good, is_load}
use Rattle.run_checker.specs.declared.verdicts.Verdict.TheVariants as verdict
use Rattle.guest_calls.proofs.AskedBefore.{ended_asked}
use Rattle.run_checker.proofs.OwnAsks.{same_place, same_store}
use Rattle.guest_core.specs.Machine.{InstructionSet}

-- ---- an access is what its own pair asks

fits_by : (made : Deed) (thread : ℕ) (place : Place) (value : ℕ) → fits (pair_of (entry_by made thread place value)).0 made place value ≡ true
fits_by deed.Load thread place value = same_place place
fits_by deed.LoadEx thread place value = same_place place
fits_by deed.Store thread place value = same_store place value
fits_by deed.StoreEx thread place value = same_store place value
fits_by deed.StoreFail thread place value = same_store place value
fits_by deed.Clear thread place value = refl

-- ---- its pair, among those of its thread

first_by : (made : Deed) (thread : ℕ) (place : Place) (value : ℕ) (rest : List Entry)
    → pairs_of thread (entry_by made thread place value ∷ rest) ≡ pair_of (entry_by made thread place value) ∷ pairs_of thread rest
first_by deed.Load thread place value rest = rw (eq-eqb thread thread refl) refl
first_by deed.LoadEx thread place value rest = rw (eq-eqb thread thread refl) refl
first_by deed.Store thread place value rest = rw (eq-eqb thread thread refl) refl
first_by deed.StoreEx thread place value rest = rw (eq-eqb thread thread refl) refl
first_by deed.StoreFail thread place value rest = rw (eq-eqb thread thread refl) refl
first_by deed.Clear thread place value rest = rw (eq-eqb thread thread refl) refl

pairs_parts : (t : ℕ) (front back : List Entry) → pairs_of t (front ++ back) ≡ pairs_of t front ++ pairs_of t back
pairs_parts t front back =
    ap (λ l. map pair_of (accesses_of l)) (entries_of-append t front back)
    ∙ ap (map pair_of) (accesses_of-append (entries_of t front) (entries_of t back))
    ∙ map-append pair_of (accesses_of (entries_of t front)) (accesses_of (entries_of t back))

split_pairs : (before after : List Access) (access : Access)
    → pairs_in access.thread (before ++ access ∷ after) ≡ pairs_in access.thread before ++ pair_of (entry_of access) ∷ pairs_in access.thread after
split_pairs before after access =
    ap (pairs_of access.thread) (map-append entry_of before (access ∷ after))
    ∙ pairs_parts access.thread (history_of before) (entry_of access ∷ history_of after)
    ∙ ap (λ l. pairs_in access.thread before ++ l) (first_by access.deed access.thread access.place access.value (history_of after))

-- ---- what Arm allows has the right value, and a mark

known_by : (monitor : Monitor) (made : Deed) (thread : ℕ) (place : Place) (value : ℕ) → MayAccess monitor (entry_by made thread place value) → thread < length monitor.marks
known_by monitor deed.Load thread place value may = may.0.known
known_by monitor deed.LoadEx thread place value may = may.0.known
known_by monitor deed.Store thread place value may = may.0.known
known_by monitor deed.StoreEx thread place value may = may.0.known
known_by monitor deed.StoreFail thread place value may = may.known
known_by monitor deed.Clear thread place value may = may

value_by : (monitor : Monitor) (made : Deed) (thread : ℕ) (place : Place) (value : ℕ) → MayAccess monitor (entry_by made thread place value)
    → (is_load made ≡ true) × (value ≢ value_at monitor.memory place) → ⊥
value_by monitor deed.Load thread place value may wrong = wrong.1 may.1
value_by monitor deed.LoadEx thread place value may wrong = wrong.1 may.1
value_by monitor deed.Store thread place value may wrong = let e : false ≡ true = wrong.0 in cc
value_by monitor deed.StoreEx thread place value may wrong = let e : false ≡ true = wrong.0 in cc
value_by monitor deed.StoreFail thread place value may wrong = let e : false ≡ true = wrong.0 in cc
value_by monitor deed.Clear thread place value may wrong = let e : false ≡ true = wrong.0 in cc

reserved_by : (monitor : Monitor) (made : Deed) (thread : ℕ) (place : Place) (value : ℕ) → MayAccess monitor (entry_by made thread place value)
    → (made ≡ deed.StoreEx) × (is_on (row_of monitor.granule place) (marked_row monitor thread) ≡ false) → ⊥
reserved_by monitor deed.StoreEx thread place value may lacks =
    let on : is_on (row_of monitor.granule place) (marked_row monitor thread) ≡ true = on_marked (row_of monitor.granule place) (marked_row monitor thread) (may.1 refl) in
    absurd (let e : true ≡ false = sym on ∙ lacks.1 in let f : ⊥ = cc in f)
reserved_by monitor deed.Load thread place value may lacks = let e : deed.Load ≡ deed.StoreEx = lacks.0 in cc
reserved_by monitor deed.LoadEx thread place value may lacks = let e : deed.LoadEx ≡ deed.StoreEx = lacks.0 in cc
reserved_by monitor deed.Store thread place value may lacks = let e : deed.Store ≡ deed.StoreEx = lacks.0 in cc
reserved_by monitor deed.StoreFail thread place value may lacks = let e : deed.StoreFail ≡ deed.StoreEx = lacks.0 in cc
reserved_by monitor deed.Clear thread place value may lacks = let e : deed.Clear ≡ deed.StoreEx = lacks.0 in cc

-- ---- all of them

module _ {I S : Type 0} (set : InstructionSet I S) where
  module _ (program : Program) (size : Numbers) (budget : ℕ) (accesses : List Access) where
    right_at : IsArmLegal (at_rest_by size.granule program.bytes size.threads) (history_of accesses)
        → ((t : ℕ) → t < size.threads → HasEnded set program size budget accesses t)
        → AreRight set program size budget accesses
    right_at legal ended before after access are =
        let start = at_rest_by size.granule program.bytes size.threads in
        let split : history_of accesses ≡ history_of before ++ entry_of access ∷ history_of after = ap history_of are ∙ map-append entry_of before (access ∷ after) in
        let whole = subst (IsArmLegal start) split legal in
        let early = IsArmLegal-front start (history_of before) (entry_of access ∷ history_of after) whole in
        let may = (IsArmLegal-back start (history_of before) (entry_of access ∷ history_of after) whole).0 in
        let monitor = monitor_of program size before in
        let many : length monitor.marks ≡ size.threads = (IsAsLarge-monitor_after start (history_of before) early).threads ∙ length-replicate size.threads None in
        let known : access.thread < size.threads = subst (λ n. access.thread < n) many (known_by monitor access.deed access.thread access.place access.value may) in
        let end = ended access.thread known in
        let pairs : pairs_in access.thread accesses ≡ pairs_in access.thread before ++ ((pair_of (entry_of access)).0, (pair_of (entry_of access)).1) ∷ pairs_in access.thread after =
        ap (pairs_in access.thread) are ∙ split_pairs before after access in
        record {
          ask = (pair_of (entry_of access)).0;
          next = ended_asked set false program budget (first_point (thread_start set program size size.threads access.thread)) (pairs_in access.thread before) (pair_of (entry_of access)).0 (pair_of (entry_of access)).1
              (pairs_in access.thread after) end.stop end.steps end.output (pairs_in access.thread accesses) pairs end.ends;
          asked = fits_by access.deed access.thread access.place access.value;
          value = value_by monitor access.deed access.thread access.place access.value may;
          reserved = reserved_by monitor access.deed access.thread access.place access.value may;
        }

    pub legal_good : IsArmLegal (at_rest_by size.granule program.bytes size.threads) (history_of accesses)
        → ((t : ℕ) → t < size.threads → HasEnded set program size budget accesses t)
        → Judges set program size budget accesses verdict.Good
    legal_good legal ended = good (right_at legal ended) ended
