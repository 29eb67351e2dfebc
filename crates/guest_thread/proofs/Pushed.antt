-- The accesses of threads, with one more behind them.
use Rattle.std.proofs.Common.{◌≡◌, ℕ, true, List, [], ◌∷◌, ◌++◌, map, refl, sym, ap, ◌∙◌, append-nil}
use Rattle.std.proofs.lemmas.Bool.{eq-eqb, ne_eqb}
use Rattle.std.proofs.lemmas.List.{map-append}
use Rattle.llsc_base.specs.Images.{Program}
use Rattle.llsc_base.specs.Sizes.{Numbers}
use Rattle.llsc_base.specs.declared.access.Place.{Place}
use Rattle.history.specs.Monitor.{accessed, at_rest_by, monitor_after}
use Rattle.history.specs.Entry.{is_access, thread_of}
use Rattle.history.specs.Parts.{accesses_of, entries_of}
use Rattle.history.specs.declared.entry.Access.{Access}
use Rattle.history.specs.declared.entry.Deed.{Deed}
use Rattle.history.specs.declared.entry.Deed.TheVariants as deed
use Rattle.history.specs.declared.entry.Entry.{Entry}
use Rattle.history.proofs.Appends.{accesses_of-append, entries_of-append, monitor_after-push}
use Rattle.guest_calls.specs.Pairs.{pair_of, pairs_of, pairs_in}
use Rattle.history.specs.Accesses.{entry_by, entry_of, history_of}
use Rattle.guest_thread.specs.Accesses.{monitor_of}

-- the history has one more entry
pub history_push : (early : List Access) (access : Access) → history_of (early ++ access ∷ []) ≡ history_of early ++ entry_of access ∷ []
history_push early access = map-append entry_of early (access ∷ [])

-- its entry is an access, and its thread's
pub access_is : (access : Access) → is_access (entry_of access) ≡ true
access_is access = by_deed access.deed access.thread access.place access.value
  where
    by_deed : (made : Deed) (thread : ℕ) (place : Place) (value : ℕ) → is_access (entry_by made thread place value) ≡ true
    by_deed deed.Load thread place value = refl
    by_deed deed.LoadEx thread place value = refl
    by_deed deed.Store thread place value = refl
    by_deed deed.StoreEx thread place value = refl
    by_deed deed.StoreFail thread place value = refl
    by_deed deed.Clear thread place value = refl

pub thread_is : (access : Access) → thread_of (entry_of access) ≡ access.thread
thread_is access = by_deed access.deed access.thread access.place access.value
  where
    by_deed : (made : Deed) (thread : ℕ) (place : Place) (value : ℕ) → thread_of (entry_by made thread place value) ≡ thread
    by_deed deed.Load thread place value = refl
    by_deed deed.LoadEx thread place value = refl
    by_deed deed.Store thread place value = refl
    by_deed deed.StoreEx thread place value = refl
    by_deed deed.StoreFail thread place value = refl
    by_deed deed.Clear thread place value = refl

-- the pairs of a thread, with one more entry
pairs_more : (thread : ℕ) (history : List Entry) (entry : Entry)
    → pairs_of thread (history ++ entry ∷ []) ≡ pairs_of thread history ++ pairs_of thread (entry ∷ [])
pairs_more thread history entry =
    ap (λ l. map pair_of (accesses_of l)) (entries_of-append thread history (entry ∷ []))
    ∙ ap (map pair_of) (accesses_of-append (entries_of thread history) (entries_of thread (entry ∷ [])))
    ∙ map-append pair_of (accesses_of (entries_of thread history)) (accesses_of (entries_of thread (entry ∷ [])))

-- those of one entry
pairs_own : (thread : ℕ) (entry : Entry) → is_access entry ≡ true → thread_of entry ≡ thread → pairs_of thread (entry ∷ []) ≡ pair_of entry ∷ []
pairs_own thread entry access own = rw (eq-eqb (thread_of entry) thread own, access) refl

pairs_other : (thread : ℕ) (entry : Entry) → (thread_of entry ≡ thread → ⊥) → pairs_of thread (entry ∷ []) ≡ []
pairs_other thread entry other = rw (ne_eqb (thread_of entry) thread other) refl

-- one more access of a thread
pub own_entry_push : (history : List Entry) (access : Access)
    → pairs_of access.thread (history ++ entry_of access ∷ []) ≡ pairs_of access.thread history ++ pair_of (entry_of access) ∷ []
own_entry_push history access =
    pairs_more access.thread history (entry_of access)
    ∙ ap (λ l. pairs_of access.thread history ++ l) (pairs_own access.thread (entry_of access) (access_is access) (thread_is access))

pub own_push : (early : List Access) (access : Access) → pairs_in access.thread (early ++ access ∷ []) ≡ pairs_in access.thread early ++ pair_of (entry_of access) ∷ []
own_push early access = ap (pairs_of access.thread) (history_push early access) ∙ own_entry_push (history_of early) access

-- one more access of another thread
pub other_push : (thread : ℕ) (early : List Access) (access : Access) → (access.thread ≡ thread → ⊥) → pairs_in thread (early ++ access ∷ []) ≡ pairs_in thread early
other_push thread early access other =
    ap (pairs_of thread) (history_push early access)
    ∙ pairs_more thread (history_of early) (entry_of access)
    ∙ ap (λ l. pairs_in thread early ++ l)
    (pairs_other thread (entry_of access) (λ same. other (sym (thread_is access) ∙ same)))
    ∙ append-nil (pairs_in thread early)

-- memory after one more access
pub monitor_push : (program : Program) (size : Numbers) (accesses : List Access) (access : Access)
    → monitor_of program size (accesses ++ access ∷ []) ≡ accessed (monitor_of program size accesses) (entry_of access)
monitor_push program size accesses access =
    ap (λ h. monitor_after (at_rest_by size.granule program.bytes size.threads) h) (history_push accesses access)
    ∙ monitor_after-push (at_rest_by size.granule program.bytes size.threads) (history_of accesses) (entry_of access)
