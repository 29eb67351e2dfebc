-- Definitions that go from the front of a list, at a list that is joined to another and at one with one more entry.
use Rattle.std.proofs.Common.{◌≡◌, ℕ, List, [], ◌∷◌, ◌++◌, nat_eq, refl}
use Rattle.std.proofs.lemmas.List.Elements.{filter-append}
use Rattle.llsc_base.specs.Sizes.{Numbers}
use Rattle.history.specs.Entry.{is_access, thread_of}
use Rattle.history.specs.Parts.{accesses_of, entries_of}
use Rattle.history.specs.Monitor.{Monitor, accessed, monitor_after}
use Rattle.history.specs.ArmLegal.{IsArmLegal, MayAccess}
use Rattle.history.specs.Standing.{Standing, joined, standing_after}
use Rattle.history.specs.Follow.{MayFollow, MayJoin}
use Rattle.history.specs.declared.entry.Entry.{Entry}
use Rattle.history.specs.declared.entry.Entry.TheVariants.{Read, Write, Fail, Clear, Watch, Miss, Begin, End, Start}

-- ---- parts

pub accesses_of-append : (front back : List Entry) → accesses_of (front ++ back) ≡ accesses_of front ++ accesses_of back
accesses_of-append front back = filter-append is_access front back

pub entries_of-append : (thread : ℕ) (front back : List Entry) → entries_of thread (front ++ back) ≡ entries_of thread front ++ entries_of thread back
entries_of-append thread front back = filter-append (λ entry. nat_eq (thread_of entry) thread) front back

-- ---- memory and marks

pub monitor_after-append : (m : Monitor) (front back : List Entry) → monitor_after m (front ++ back) ≡ monitor_after (monitor_after m front) back
monitor_after-append m [] back = refl
monitor_after-append m (entry ∷ front) back = monitor_after-append (accessed m entry) front back

-- one more access
pub monitor_after-push : (m : Monitor) (front : List Entry) (entry : Entry) → monitor_after m (front ++ entry ∷ []) ≡ accessed (monitor_after m front) entry
monitor_after-push m front entry = monitor_after-append m front (entry ∷ [])

pub IsArmLegal-append : (m : Monitor) (front back : List Entry) → IsArmLegal m front → IsArmLegal (monitor_after m front) back → IsArmLegal m (front ++ back)
IsArmLegal-append m [] back h rest = rest
IsArmLegal-append m (entry ∷ front) back h rest = (h.0, IsArmLegal-append (accessed m entry) front back h.1 rest)

pub IsArmLegal-front : (m : Monitor) (front back : List Entry) → IsArmLegal m (front ++ back) → IsArmLegal m front
IsArmLegal-front m [] back h = tt
IsArmLegal-front m (entry ∷ front) back h = (h.0, IsArmLegal-front (accessed m entry) front back h.1)

pub IsArmLegal-back : (m : Monitor) (front back : List Entry) → IsArmLegal m (front ++ back) → IsArmLegal (monitor_after m front) back
IsArmLegal-back m [] back h = h
IsArmLegal-back m (entry ∷ front) back h = IsArmLegal-back (accessed m entry) front back h.1

-- one more access, where it may come next
pub IsArmLegal-push : (m : Monitor) (front : List Entry) (entry : Entry) → IsArmLegal m front → MayAccess (monitor_after m front) entry
    → IsArmLegal m (front ++ entry ∷ [])
IsArmLegal-push m front entry h next = IsArmLegal-append m front (entry ∷ []) h (next, tt)

-- the last access may stand where it does
pub IsArmLegal-last : (m : Monitor) (front : List Entry) (entry : Entry) → IsArmLegal m (front ++ entry ∷ []) → MayAccess (monitor_after m front) entry
IsArmLegal-last m front entry h = (IsArmLegal-back m front (entry ∷ []) h).0

-- marks of the history change neither memory nor monitors
pub monitor_after-accesses_of : (m : Monitor) (history : List Entry) → monitor_after m (accesses_of history) ≡ monitor_after m history
monitor_after-accesses_of m [] = refl
monitor_after-accesses_of m (Read t p v x ∷ es) = monitor_after-accesses_of (accessed m (Read t p v x)) es
monitor_after-accesses_of m (Write t p v x ∷ es) = monitor_after-accesses_of (accessed m (Write t p v x)) es
monitor_after-accesses_of m (Fail t p v c ∷ es) = monitor_after-accesses_of (accessed m (Fail t p v c)) es
monitor_after-accesses_of m (Clear t ∷ es) = monitor_after-accesses_of (accessed m (Clear t)) es
monitor_after-accesses_of m (Watch t p ∷ es) = monitor_after-accesses_of m es
monitor_after-accesses_of m (Miss t p ∷ es) = monitor_after-accesses_of m es
monitor_after-accesses_of m (Begin t p ∷ es) = monitor_after-accesses_of m es
monitor_after-accesses_of m (End t p ∷ es) = monitor_after-accesses_of m es
monitor_after-accesses_of m (Start t c n a ∷ es) = monitor_after-accesses_of m es

-- and nothing is asked of them
pub IsArmLegal-to_accesses_of : (m : Monitor) (history : List Entry) → IsArmLegal m history → IsArmLegal m (accesses_of history)
IsArmLegal-to_accesses_of m [] h = tt
IsArmLegal-to_accesses_of m (Read t p v x ∷ es) h = (h.0, IsArmLegal-to_accesses_of (accessed m (Read t p v x)) es h.1)
IsArmLegal-to_accesses_of m (Write t p v x ∷ es) h = (h.0, IsArmLegal-to_accesses_of (accessed m (Write t p v x)) es h.1)
IsArmLegal-to_accesses_of m (Fail t p v c ∷ es) h = (h.0, IsArmLegal-to_accesses_of (accessed m (Fail t p v c)) es h.1)
IsArmLegal-to_accesses_of m (Clear t ∷ es) h = (h.0, IsArmLegal-to_accesses_of (accessed m (Clear t)) es h.1)
IsArmLegal-to_accesses_of m (Watch t p ∷ es) h = IsArmLegal-to_accesses_of m es h.1
IsArmLegal-to_accesses_of m (Miss t p ∷ es) h = IsArmLegal-to_accesses_of m es h.1
IsArmLegal-to_accesses_of m (Begin t p ∷ es) h = IsArmLegal-to_accesses_of m es h.1
IsArmLegal-to_accesses_of m (End t p ∷ es) h = IsArmLegal-to_accesses_of m es h.1
IsArmLegal-to_accesses_of m (Start t c n a ∷ es) h = IsArmLegal-to_accesses_of m es h.1

pub IsArmLegal-from_accesses_of : (m : Monitor) (history : List Entry) → IsArmLegal m (accesses_of history) → IsArmLegal m history
IsArmLegal-from_accesses_of m [] h = tt
IsArmLegal-from_accesses_of m (Read t p v x ∷ es) h = (h.0, IsArmLegal-from_accesses_of (accessed m (Read t p v x)) es h.1)
IsArmLegal-from_accesses_of m (Write t p v x ∷ es) h = (h.0, IsArmLegal-from_accesses_of (accessed m (Write t p v x)) es h.1)
IsArmLegal-from_accesses_of m (Fail t p v c ∷ es) h = (h.0, IsArmLegal-from_accesses_of (accessed m (Fail t p v c)) es h.1)
IsArmLegal-from_accesses_of m (Clear t ∷ es) h = (h.0, IsArmLegal-from_accesses_of (accessed m (Clear t)) es h.1)
IsArmLegal-from_accesses_of m (Watch t p ∷ es) h = (tt, IsArmLegal-from_accesses_of m es h)
IsArmLegal-from_accesses_of m (Miss t p ∷ es) h = (tt, IsArmLegal-from_accesses_of m es h)
IsArmLegal-from_accesses_of m (Begin t p ∷ es) h = (tt, IsArmLegal-from_accesses_of m es h)
IsArmLegal-from_accesses_of m (End t p ∷ es) h = (tt, IsArmLegal-from_accesses_of m es h)
IsArmLegal-from_accesses_of m (Start t c n a ∷ es) h = (tt, IsArmLegal-from_accesses_of m es h)

-- ---- how things stand

pub standing_after-append : (size : Numbers) (s : Standing) (front back : List Entry)
    → standing_after size s (front ++ back) ≡ standing_after size (standing_after size s front) back
standing_after-append size s [] back = refl
standing_after-append size s (entry ∷ front) back = standing_after-append size (joined size s entry) front back

-- one more entry
pub standing_after-push : (size : Numbers) (s : Standing) (front : List Entry) (entry : Entry)
    → standing_after size s (front ++ entry ∷ []) ≡ joined size (standing_after size s front) entry
standing_after-push size s front entry = standing_after-append size s front (entry ∷ [])

pub MayFollow-append : (size : Numbers) (s : Standing) (front back : List Entry) → MayFollow size s front
    → MayFollow size (standing_after size s front) back → MayFollow size s (front ++ back)
MayFollow-append size s [] back h rest = rest
MayFollow-append size s (entry ∷ front) back h rest = (h.0, MayFollow-append size (joined size s entry) front back h.1 rest)

pub MayFollow-front : (size : Numbers) (s : Standing) (front back : List Entry) → MayFollow size s (front ++ back) → MayFollow size s front
MayFollow-front size s [] back h = tt
MayFollow-front size s (entry ∷ front) back h = (h.0, MayFollow-front size (joined size s entry) front back h.1)

pub MayFollow-back : (size : Numbers) (s : Standing) (front back : List Entry) → MayFollow size s (front ++ back)
    → MayFollow size (standing_after size s front) back
MayFollow-back size s [] back h = h
MayFollow-back size s (entry ∷ front) back h = MayFollow-back size (joined size s entry) front back h.1

-- one more entry, where it may come next
pub MayFollow-push : (size : Numbers) (s : Standing) (front : List Entry) (entry : Entry) → MayFollow size s front
    → MayJoin size (standing_after size s front) entry → MayFollow size s (front ++ entry ∷ [])
MayFollow-push size s front entry h next = MayFollow-append size s front (entry ∷ []) h (next, tt)

-- the last entry may stand where it does
pub MayFollow-last : (size : Numbers) (s : Standing) (front : List Entry) (entry : Entry) → MayFollow size s (front ++ entry ∷ [])
    → MayJoin size (standing_after size s front) entry
MayFollow-last size s front entry h = (MayFollow-back size s front (entry ∷ []) h).0
