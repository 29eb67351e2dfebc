-- The accesses of a good record are what Arm's memory and monitors allow.
use Rattle.std.proofs.Common.{◌≡◌, ◌≢◌, ℕ, ◌+◌, ◌<◌, ◌≤◌, inl, inr, true, false, Option, Some, None, List, [], ◌∷◌, ◌++◌, length, refl, sym, ap, subst, ◌∙◌, append_assoc}
use Rattle.std.specs.List.{All}
use Rattle.std.proofs.lemmas.Bool.{cases_eq, eqb-true, true_from_ne_false}
use Rattle.std.proofs.lemmas.List.{length-replicate}
use Rattle.std.proofs.lemmas.List.Elements.{All-head, All-tail}
use Rattle.llsc_base.specs.Memory.{row_of, size_bytes, value_at}
use Rattle.llsc_base.specs.Images.{Program}
use Rattle.llsc_base.specs.Sizes.{Numbers}
use Rattle.llsc_base.specs.declared.access.Place.{Place}
use Rattle.history.specs.ArmLegal.{IsArmLegal, IsSound, MayAccess}
use Rattle.history.specs.Monitor.{Monitor, at_rest_by, is_on, marked_row}
use Rattle.history.specs.declared.entry.Access.{Access}
use Rattle.history.specs.declared.entry.Deed.{Deed}
use Rattle.history.specs.declared.entry.Deed.TheVariants as deed
use Rattle.history.proofs.Marks.{IsAsLarge-accessed}
use Rattle.history.specs.Accesses.{entry_by, entry_of, history_of}
use Rattle.guest_calls.specs.Pairs.{pairs_in}
use Rattle.guest_thread.specs.Start.{thread_start}
use Rattle.run_record.specs.Limits.{IsAccess}
use Rattle.guest_thread.specs.Accesses.{monitor_of}
use Rattle.guest_thread.specs.Ended.{HasEnded}
use Rattle.run_checker.specs.Verdict.{is_load, IsRight, AreRight, Judges, good}
use Rattle.run_checker.specs.declared.verdicts.Verdict.TheVariants as verdict
use Rattle.run_checker.proofs.AskedPairs.{asked_inside}
use Rattle.guest_thread.proofs.Placed.{asks_placed}
use Rattle.guest_thread.proofs.Pushed.{monitor_push}
use Rattle.guest_core.specs.Machine.{InstructionSet}
use Rattle.guest_core.specs.inner.Sound.{AsksPass, StopsAreOwn}

-- a mark on a row is that row
on_row : (row : ℕ) (mark : Option ℕ) → is_on row mark ≡ true → mark ≡ Some row
on_row row None on = cc
on_row row (Some marked) on = ap Some (eqb-true marked row on)

-- a value that isn't another one is that one
not_other : (value other : ℕ) → (value ≢ other → ⊥) → value ≡ other
not_other value other differs = elim (cases_eq value other) [ inl same ↦ same | inr apart ↦ absurd (differs apart) ]

-- an access against which nothing stands may come next
may_by : (monitor : Monitor) (made : Deed) (thread : ℕ) (place : Place) (value : ℕ)
    → thread < length monitor.marks
    → ((made ≡ deed.Clear → ⊥) → IsSound (length monitor.marks) (length monitor.memory) thread place value)
    → ((is_load made ≡ true) × (value ≢ value_at monitor.memory place) → ⊥)
    → ((made ≡ deed.StoreEx) × (is_on (row_of monitor.granule place) (marked_row monitor thread) ≡ false) → ⊥)
    → MayAccess monitor (entry_by made thread place value)
may_by monitor deed.Load thread place value known sound wrong lacks =
    (sound (λ e. cc), not_other value (value_at monitor.memory place) (λ apart. wrong (refl, apart)))
may_by monitor deed.LoadEx thread place value known sound wrong lacks =
    (sound (λ e. cc), not_other value (value_at monitor.memory place) (λ apart. wrong (refl, apart)))
may_by monitor deed.Store thread place value known sound wrong lacks = (sound (λ e. cc), λ e. cc)
may_by monitor deed.StoreEx thread place value known sound wrong lacks = (
  sound (λ e. cc),
  λ e. on_row (row_of monitor.granule place) (marked_row monitor thread) (true_from_ne_false (is_on (row_of monitor.granule place) (marked_row monitor thread)) (λ off. lacks (refl, off))),
)
may_by monitor deed.StoreFail thread place value known sound wrong lacks = sound (λ e. cc)
may_by monitor deed.Clear thread place value known sound wrong lacks = known

-- memory of a program's bytes, and a mark for each of its threads
record IsLarge (program : Program) (size : Numbers) (monitor : Monitor) : Type 0 where
  bytes : length monitor.memory ≡ length program.bytes
  threads : length monitor.marks ≡ size.threads

module _ {I S : Type 0} (set : InstructionSet I S) (passes : AsksPass set) (own : StopsAreOwn set) where
  module _ (program : Program) (size : Numbers) (budget : ℕ) where
    -- an access that is right may come next
    may : (early : List Access) (access : Access) → IsLarge program size (monitor_of program size early) → IsAccess size.threads access
        → IsRight set program size budget early access → MayAccess (monitor_of program size early) (entry_of access)
    may early access large access_is right =
        let monitor = monitor_of program size early in
        let known : access.thread < length monitor.marks = subst (λ n. access.thread < n) (sym large.threads) access_is.thread in
        may_by monitor access.deed access.thread access.place access.value known
        (λ other. record {
          known = known;
          aligned = access_is.formed.aligned;
          inside = subst (λ n. access.place.addr + size_bytes access.place.size ≤ n) (sym large.bytes)
              (asked_inside (length program.bytes) right.ask access right.asked
              (asks_placed set passes own program budget (thread_start set program size size.threads access.thread) tt (pairs_in access.thread early) right.ask right.next) other);
          fits = access_is.formed.fits;
        })
        right.value
        right.reserved

    -- the later of some right accesses are allowed
    legal_from : (early later : List Access) → IsLarge program size (monitor_of program size early) → AreRight set program size budget (early ++ later)
        → All (IsAccess size.threads) later → IsArmLegal (monitor_of program size early) (history_of later)
    legal_from early [] large right are = tt
    legal_from early (access ∷ later) large right are =
        let next : MayAccess (monitor_of program size early) (entry_of access) =
        may early access large (All-head (IsAccess size.threads) access later are) (right early later access refl) in
        let grown = IsAsLarge-accessed (monitor_of program size early) (entry_of access) next in
        let moved = monitor_push program size early access in (
          next,
          subst (λ (m : Monitor). IsArmLegal m (history_of later)) moved
              (legal_from (early ++ access ∷ []) later
              (subst (IsLarge program size) (sym moved) (record { bytes = grown.bytes ∙ large.bytes; threads = grown.threads ∙ large.threads }))
              (subst (AreRight set program size budget) (sym (append_assoc early (access ∷ []) later)) right)
              (All-tail (IsAccess size.threads) access later are)),
        )

    -- right accesses are allowed
    pub right_legal : (accesses : List Access) → AreRight set program size budget accesses → All (IsAccess size.threads) accesses
        → IsArmLegal (at_rest_by size.granule program.bytes size.threads) (history_of accesses)
    right_legal accesses right are =
        legal_from [] accesses (record { bytes = refl; threads = length-replicate size.threads None }) right are

    -- those of a good record are right
    pub good_right : (accesses : List Access) → Judges set program size budget accesses verdict.Good → AreRight set program size budget accesses
    good_right accesses (good right stopped) = right

    -- and each thread has stopped
    pub good_stopped : (accesses : List Access) (t : ℕ) → Judges set program size budget accesses verdict.Good → t < size.threads → HasEnded set program size budget accesses t
    good_stopped accesses t (good right stopped) known = stopped t known
