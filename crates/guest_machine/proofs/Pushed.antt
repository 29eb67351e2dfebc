-- Accesses with one more.
use Rattle.std.proofs.Common.{◌≡◌, ◌≢◌, ℕ, Bool, true, false, if◌then◌else◌, List, [], ◌∷◌, ◌++◌, refl, sym, ◌∙◌, ap, subst}
use Rattle.llsc_base.specs.Memory.{row_of}
use Rattle.history.specs.Monitor.{Monitor, is_on, marked_row}
use Rattle.history.specs.declared.entry.Access.{Access}
use Rattle.history.specs.declared.entry.Deed.TheVariants as deed
use Rattle.history.specs.declared.entry.Entry.{Entry}
use Rattle.llsc_base.specs.declared.outside.Ask.{Ask}
use Rattle.llsc_base.specs.declared.outside.Ask.TheVariants.{Load, LoadEx, Store, StoreEx, Clear}
use Rattle.guest_calls.specs.Pairs.{pair_of, pairs_of, pairs_in, reply_of}
use Rattle.history.specs.Accesses.{history_of, entry_of, entry_by}
use Rattle.guest_thread.specs.Accesses.{access_by}
use Rattle.guest_thread.proofs.Pushed.{history_push, own_entry_push, other_push as another_push}

-- whose an access is
pub made_by : (m : Monitor) (t : ℕ) (ask : Ask) → (access_by m t ask).thread ≡ t
made_by m t (Load place) = refl
made_by m t (LoadEx place) = refl
made_by m t (Store place value) = refl
made_by m t (StoreEx place value) = refl
made_by m t Clear = refl

-- what was asked for it
asked_is : (m : Monitor) (t : ℕ) (ask : Ask) → pair_of (entry_of (access_by m t ask)) ≡ (ask, reply_of (access_by m t ask))
asked_is m t (Load place) = refl
asked_is m t (LoadEx place) = refl
asked_is m t (Store place value) = refl
asked_is m t (StoreEx place value) = exclusive (is_on (row_of m.granule place) (marked_row m t))
  where
    exclusive : (b : Bool) → pair_of (entry_by (if b then deed.StoreEx else deed.StoreFail) t place value)
        ≡ (StoreEx place value, (pair_of (entry_by (if b then deed.StoreEx else deed.StoreFail) t place value)).1)
    exclusive true = refl
    exclusive false = refl
asked_is m t Clear = refl

-- the thread that made an access has what it asked and the reply behind its pairs
pub own_asked_push : (t : ℕ) (history : List Entry) (m : Monitor) (ask : Ask)
    → pairs_of t (history ++ entry_of (access_by m t ask) ∷ []) ≡ pairs_of t history ++ (ask, reply_of (access_by m t ask)) ∷ []
own_asked_push t history m ask =
    let entry : Entry = entry_of (access_by m t ask) in
    subst (λ u. pairs_of u (history ++ entry ∷ []) ≡ pairs_of u history ++ pair_of entry ∷ []) (made_by m t ask)
    (own_entry_push history (access_by m t ask))
    ∙ ap (λ p. pairs_of t history ++ p ∷ []) (asked_is m t ask)

pub own_push : (t : ℕ) (accesses : List Access) (m : Monitor) (ask : Ask)
    → pairs_in t (accesses ++ access_by m t ask ∷ []) ≡ pairs_in t accesses ++ (ask, reply_of (access_by m t ask)) ∷ []
own_push t accesses m ask = ap (pairs_of t) (history_push accesses (access_by m t ask)) ∙ own_asked_push t (history_of accesses) m ask

-- and any other thread has its pairs as before
pub other_push : (other t : ℕ) (accesses : List Access) (m : Monitor) (ask : Ask) → other ≢ t
    → pairs_in other (accesses ++ access_by m t ask ∷ []) ≡ pairs_in other accesses
other_push other t accesses m ask differs =
    another_push other accesses (access_by m t ask) (λ same. differs (sym same ∙ made_by m t ask))
