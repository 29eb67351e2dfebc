-- The history of a thread alone: memory decides the replies to its accesses.
use Rattle.std.proofs.Common.{◌≡◌, ℕ, ◌<◌, ◌==◌, Bool, true, false, if◌then◌else◌, map, length, List, [], ◌∷◌, ◌++◌, refl, sym, ◌∙◌, ap, subst, Some, arith}
use Rattle.llsc_base.specs.Memory.{row_of, value_at}
use Rattle.llsc_base.specs.declared.access.Place.{Place}
use Rattle.history.specs.Entry.{is_access, thread_of}
use Rattle.history.specs.Parts.{accesses_of, entries_of}
use Rattle.history.specs.Monitor.{Monitor, accessed, at_rest_by, is_on, marked_row}
use Rattle.history.specs.ArmLegal.{IsArmLegal, MayAccess}
use Rattle.history.specs.declared.entry.Deed.TheVariants as deed
use Rattle.history.specs.declared.entry.Entry.{Entry}
use Rattle.history.specs.declared.entry.Entry.TheVariants as entry
use Rattle.history.specs.declared.entry.Cause.{Cause}
use Rattle.history.specs.declared.entry.Cause.TheVariants.{Absent}
use Rattle.history.proofs.Marks.{IsAsLarge-accessed}
use Rattle.llsc_base.specs.declared.outside.Ask.{Ask}
use Rattle.llsc_base.specs.declared.outside.Ask.TheVariants.{StoreEx}
use Rattle.guest_calls.specs.Run.{Pair}
use Rattle.guest_calls.specs.Pairs.{pair_of, pairs_of, reply_of}
use Rattle.history.specs.Accesses.{entry_of, entry_by}
use Rattle.guest_thread.specs.Accesses.{access_by}
use Rattle.guest_machine.specs.Alone.{FailsUnmarked, AllFailUnmarked, IsHistoryAlone}
use Rattle.history.proofs.Exclusives.{on_marked}
use Rattle.guest_calls.proofs.Decided.{Replies, AreDecided}

-- the entry that memory makes of an access of thread 0, and its reply
abbrev pub made : Monitor → Ask → Entry
made monitor ask = entry_of (access_by monitor 0 ask)

abbrev pub reply_to : Monitor → Ask → ℕ
reply_to monitor ask = reply_of (access_by monitor 0 ask)

-- memory after a list of accesses, whatever was replied
abbrev pub served : Monitor → List Pair → Monitor
served monitor [] = monitor
served monitor (pair ∷ pairs) = served (accessed monitor (made monitor pair.0)) pairs

-- what a memory that began as these bytes replies
abbrev pub by_memory : (granule : ℕ) → List ℕ → Replies
by_memory granule first front ask = Some (reply_to (served (at_rest_by granule first 1) front) ask)

-- each reply is that of memory where it stands
abbrev pub AreServed : Monitor → List Pair → Type 0
AreServed monitor [] = Unit {0}
AreServed monitor (pair ∷ pairs) = (pair.1 ≡ reply_to monitor pair.0) × AreServed (accessed monitor (made monitor pair.0)) pairs

-- memory decides replies that are its own
served_at : (m : Monitor) (front back : List Pair) (ask : Ask) (reply : ℕ)
    → AreServed m (front ++ (ask, reply) ∷ back) → reply ≡ reply_to (served m front) ask
served_at m [] back ask reply all = all.0
served_at m (pair ∷ front) back ask reply all = served_at (accessed m (made m pair.0)) front back ask reply all.1

-- so they are decided
pub served_decides : (m : Monitor) (pairs : List Pair) → AreServed m pairs → AreDecided (λ front ask. Some (reply_to (served m front) ask)) pairs
served_decides m pairs all front back ask reply parts =
    ap Some (sym (served_at m front back ask reply (subst (AreServed m) parts all)))

-- ---- the accesses of a thread alone

-- An access as one of thread 0 that memory has served.
pub record IsDecidedAlone (m : Monitor) (e : Entry) : Type 0 where
  pub own : thread_of e ≡ 0
  pub reply : (pair_of e).1 ≡ reply_to m (pair_of e).0
  pub after : accessed m (made m (pair_of e).0) ≡ accessed m e

-- the one thread there is
only_thread : (m : Monitor) (thread : ℕ) → length m.marks ≡ 1 → thread < length m.marks → thread ≡ 0
only_thread m thread one known = omega arith

-- a load
load_served : (m : Monitor) (thread : ℕ) (place : Place) (value : ℕ) (ex : Bool) → thread ≡ 0 → value ≡ value_at m.memory place
    → IsDecidedAlone m (entry.Read thread place value ex)
load_served m thread place value false own is = record { own = own; reply = is; after = refl }
load_served m thread place value true own is = record {
  own = own;
  reply = is;
  after = ap (λ t. accessed m (entry.Read t place value true)) (sym own);
}

-- a store
store_served : (m : Monitor) (thread : ℕ) (place : Place) (value : ℕ) (ex : Bool) → thread ≡ 0
    → (ex ≡ true → marked_row m thread ≡ Some (row_of m.granule place))
    → IsDecidedAlone m (entry.Write thread place value ex)
store_served m thread place value false own marked = record { own = own; reply = refl; after = refl }
store_served m thread place value true own marked =
    let on : is_on (row_of m.granule place) (marked_row m 0) ≡ true = on_marked (row_of m.granule place) (marked_row m 0) (ap (marked_row m) (sym own) ∙ marked refl) in
    let is : made m (StoreEx place value) ≡ entry.Write 0 place value true =
    ap (λ b. entry_by (if b then deed.StoreEx else deed.StoreFail) 0 place value) on in
    record {
      own = own;
      reply = sym (ap (λ e. (pair_of e).1) is);
      after = ap (accessed m) is ∙ ap (λ t. accessed m (entry.Write t place value true)) (sym own);
    }

-- a store-exclusive that failed
fail_served : (m : Monitor) (thread : ℕ) (place : Place) (value : ℕ) (cause : Cause) → thread ≡ 0
    → is_on (row_of m.granule place) (marked_row m thread) ≡ false → IsDecidedAlone m (entry.Fail thread place value cause)
fail_served m thread place value cause own unmarked =
    let off : is_on (row_of m.granule place) (marked_row m 0) ≡ false = ap (λ t. is_on (row_of m.granule place) (marked_row m t)) (sym own) ∙ unmarked in
    let is : made m (StoreEx place value) ≡ entry.Fail 0 place value Absent =
    ap (λ b. entry_by (if b then deed.StoreEx else deed.StoreFail) 0 place value) off in
    record {
      own = own;
      reply = sym (ap (λ e. (pair_of e).1) is);
      after = ap (accessed m) is ∙ ap (λ t. accessed m (entry.Fail t place value cause)) (sym own);
    }

-- CLREX
clear_served : (m : Monitor) (thread : ℕ) → thread ≡ 0 → IsDecidedAlone m (entry.Clear thread)
clear_served m thread own = record { own = own; reply = refl; after = ap (λ t. accessed m (entry.Clear t)) (sym own) }

-- an access that Arm allows to the one thread there is has been served
pub access_served : (m : Monitor) (e : Entry) → length m.marks ≡ 1 → MayAccess m e → FailsUnmarked m e → is_access e ≡ true → IsDecidedAlone m e
access_served m (entry.Read thread place value ex) one may decided is = load_served m thread place value ex (only_thread m thread one may.0.known) may.1
access_served m (entry.Write thread place value ex) one may decided is = store_served m thread place value ex (only_thread m thread one may.0.known) may.1
access_served m (entry.Fail thread place value cause) one may decided is = fail_served m thread place value cause (only_thread m thread one may.known) decided
access_served m (entry.Clear thread) one may decided is = clear_served m thread (only_thread m thread one may)
access_served m _ one may decided is = cc

-- a mark changes neither memory nor monitors
mark_keeps : (m : Monitor) (e : Entry) → is_access e ≡ false → accessed m e ≡ m
mark_keeps m (entry.Read thread place value ex) is = cc
mark_keeps m (entry.Write thread place value ex) is = cc
mark_keeps m (entry.Fail thread place value cause) is = cc
mark_keeps m (entry.Clear thread) is = cc
mark_keeps m _ is = refl

-- ---- the accesses and replies of a history

-- an access of thread 0 is the first of them
pub pairs_of-access : (e : Entry) (history : List Entry) → thread_of e ≡ 0 → is_access e ≡ true → pairs_of 0 (e ∷ history) ≡ pair_of e ∷ pairs_of 0 history
pairs_of-access e history own is =
    let rest : List Entry = entries_of 0 history in
    let mine : (thread_of e == 0) ≡ true = ap (λ t. t == 0) own in
    ap (λ b. map pair_of (accesses_of (if b then e ∷ rest else rest))) mine
    ∙ ap (λ b. map pair_of (if b then e ∷ accesses_of rest else accesses_of rest)) is

-- a mark of whichever thread is left out
marked_pairs : (b : Bool) (e : Entry) (rest : List Entry) → is_access e ≡ false
    → map pair_of (accesses_of (if b then e ∷ rest else rest)) ≡ map pair_of (accesses_of rest)
marked_pairs true e rest is = ap (λ b. map pair_of (if b then e ∷ accesses_of rest else accesses_of rest)) is
marked_pairs false e rest is = refl

-- a mark is none of them
pub pairs_of-mark : (e : Entry) (history : List Entry) → is_access e ≡ false → pairs_of 0 (e ∷ history) ≡ pairs_of 0 history
pairs_of-mark e history is = marked_pairs (thread_of e == 0) e (entries_of 0 history) is

-- one entry before those that are served
entry_served : (m : Monitor) (e : Entry) (history : List Entry) (b : Bool) → is_access e ≡ b → length m.marks ≡ 1 → MayAccess m e → FailsUnmarked m e
    → AreServed (accessed m e) (pairs_of 0 history) → AreServed m (pairs_of 0 (e ∷ history))
entry_served m e history true is one may decided rest =
    let here = access_served m e one may decided is in
    subst (AreServed m) (sym (pairs_of-access e history here.own is))
    (here.reply, subst (λ n. AreServed n (pairs_of 0 history)) (sym here.after) rest)
entry_served m e history false is one may decided rest =
    subst (AreServed m) (sym (pairs_of-mark e history is)) (subst (λ n. AreServed n (pairs_of 0 history)) (mark_keeps m e is) rest)

-- as many threads after an entry
pub one_still : (m : Monitor) (e : Entry) → length m.marks ≡ 1 → MayAccess m e → length (accessed m e).marks ≡ 1
one_still m e one may = (IsAsLarge-accessed m e may).threads ∙ one

-- memory has served each access of a thread alone
pub history_served : (m : Monitor) (history : List Entry) → length m.marks ≡ 1 → IsArmLegal m history → AllFailUnmarked m history
    → AreServed m (pairs_of 0 history)
history_served m [] one legal decided = tt
history_served m (e ∷ history) one legal decided =
    entry_served m e history (is_access e) refl one legal.0 decided.0
    (history_served (accessed m e) history (one_still m e one legal.0) legal.1 decided.1)

-- memory decides the replies of a thread alone
pub alone_decided : (granule : ℕ) (first : List ℕ) (history : List Entry) → IsHistoryAlone granule first history
    → AreDecided (by_memory granule first) (pairs_of 0 history)
alone_decided granule first history alone =
    served_decides (at_rest_by granule first 1) (pairs_of 0 history) (history_served (at_rest_by granule first 1) history refl alone.legal alone.decided)
