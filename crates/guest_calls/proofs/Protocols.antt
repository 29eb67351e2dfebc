-- Threads each of which goes by a protocol, in a history of accesses that Arm allows: what each access by it keeps holds at every point
-- of the history. For any guest, and for accesses that no guest makes.
use Rattle.std.proofs.Common.{◌≡◌, ℕ, ◌<◌, true, List, [], ◌∷◌, ◌++◌, map, length, refl, sym, ap, subst, ◌∙◌, inl, inr, append-nil, append_assoc}
use Rattle.std.proofs.lemmas.Bool.{cases_Bool, cases_eq}
use Rattle.history.specs.ArmLegal.{IsArmLegal, MayAccess}
use Rattle.history.specs.Entry.{is_access, thread_of}
use Rattle.history.specs.Monitor.{Monitor, monitor_after}
use Rattle.history.specs.Parts.{accesses_of, entries_of}
use Rattle.history.specs.Standing.{updated}
use Rattle.history.specs.declared.entry.Entry.{Entry}
use Rattle.history.proofs.Appends.{IsArmLegal-back, IsArmLegal-front}
use Rattle.history.proofs.Held.{other_entry, own_entry}
use Rattle.history.proofs.Marking.{access-known}
use Rattle.history.proofs.Marks.{IsAsLarge-monitor_after, updated-other, updated-same}
use Rattle.guest_calls.specs.Pairs.{pair_of}
use Rattle.guest_calls.specs.Run.{Pair}

-- ---- entries that are accesses

abbrev AreAccesses : List Entry → Type 0
AreAccesses [] = Unit {0}
AreAccesses (entry ∷ entries) = (is_access entry ≡ true) × AreAccesses entries

accesses-are : (history : List Entry) → AreAccesses (accesses_of history)
accesses-are [] = tt
accesses-are (entry ∷ history) = elim (cases_Bool (is_access entry)) [
  | inl access ↦ rw access (access, accesses-are history)
  | inr other ↦ rw other (accesses-are history)
]

first_access : (front : List Entry) (entry : Entry) (back : List Entry) → AreAccesses (front ++ (entry ∷ back)) → is_access entry ≡ true
first_access [] entry back are = are.0
first_access (one ∷ front) entry back are = first_access front entry back are.1

-- what a thread asks and is replied in accesses
abbrev pub makes : ℕ → List Entry → List Pair
makes t entries = map pair_of (entries_of t entries)

-- an access that a thread makes, where memory and monitors stand so
pub record IsMade (m : Monitor) (t : ℕ) (entry : Entry) (pair : Pair) : Type 0 where
  pub own : thread_of entry ≡ t
  pub access : is_access entry ≡ true
  pub may : MayAccess m entry
  pub are : pair_of entry ≡ pair

-- ---- one thread

-- A protocol: points at which a thread may stand between two accesses, how an access and its reply lead from one to another, and where
-- a thread may end. From a point a thread makes these accesses, and ends.
module _ (Point : Type 0) (Step : Point → Pair → Point → Type 0) (MayEnd : Point → Type 0) where
  pub data Goes : Point → List Pair → Type 0 where
    ends : (point : Point) → MayEnd point → Goes point []
    goes : (point later : Point) (pair : Pair) (pairs : List Pair) → Step point pair later → Goes later pairs → Goes point (pair ∷ pairs)

  -- the first access of a thread that makes one
  pub record IsFirst (point : Point) (pair : Pair) (pairs : List Pair) : Type 0 where
    pub later : Point
    pub step : Step point pair later
    pub rest : Goes later pairs

  pub first_step : (point : Point) (all : List Pair) → Goes point all → (pair : Pair) (pairs : List Pair) → all ≡ pair ∷ pairs → IsFirst point pair pairs
  first_step _ _ (ends point may) pair pairs same = absurd (let f : ⊥ = cc in f)
  first_step _ _ (goes point later one rest step more) pair pairs same =
      let head : one ≡ pair = cc in
      let tail : rest ≡ pairs = cc in
      record { later = later; step = subst (λ x. Step point x later) head step; rest = subst (Goes later) tail more }

  -- where it makes none it may end
  pub at_end : (point : Point) (all : List Pair) → Goes point all → all ≡ [] → MayEnd point
  at_end _ _ (ends point may) same = may
  at_end _ _ (goes point later one rest step more) same = absurd (let f : ⊥ = cc in f)

-- ---- all threads

module _ (Point : Type 0) (Step : Point → Pair → Point → Type 0) (MayEnd : ℕ → Point → Type 0) (start : Monitor) (threads : ℕ) (Holds : List Entry → (ℕ → Point) → Type 0) where
  -- Something holds, of accesses and of the points at which the threads stand behind them; and each access that a thread makes by the
  -- protocol keeps it.
  pub record IsKept : Type 0 where
    pub many : length start.marks ≡ threads
    pub kept : (front : List Entry) (p : ℕ → Point) (t : ℕ) (entry : Entry) (pair : Pair) (later : Point) → Holds front p → t < threads
        → IsMade (monitor_after start front) t entry pair → Step (p t) pair later → Holds (front ++ entry ∷ []) (updated p t later)

  -- so it is behind a front of accesses, and from there on each thread makes its own of the others
  pub record IsAt (front back : List Entry) : Type 0 where
    pub points : ℕ → Point
    pub holds : Holds front points
    pub go : (t : ℕ) → t < threads → Goes Point Step (MayEnd t) (points t) (makes t back)

  -- the next of the accesses is one that its thread may make, by a step from where it stands
  pub record IsNext (past : List Entry) (p : ℕ → Point) (entry : Entry) (rest : List Entry) : Type 0 where
    pub may : MayAccess (monitor_after start past) entry
    pub member : thread_of entry < threads
    pub first : IsFirst Point Step (MayEnd (thread_of entry)) (p (thread_of entry)) (pair_of entry) (makes (thread_of entry) rest)

  pub next_step : IsKept → (past : List Entry) (p : ℕ → Point) (entry : Entry) (rest : List Entry) → is_access entry ≡ true → IsArmLegal start (past ++ (entry ∷ rest))
      → ((t : ℕ) → t < threads → Goes Point Step (MayEnd t) (p t) (makes t (entry ∷ rest))) → IsNext past p entry rest
  next_step is past p entry rest access legal go =
      let t = thread_of entry in
      let m = monitor_after start past in
      let may : MayAccess m entry = (IsArmLegal-back start past (entry ∷ rest) legal).0 in
      let large = IsAsLarge-monitor_after start past (IsArmLegal-front start past (entry ∷ rest) legal) in
      let many : length m.marks ≡ threads = large.threads ∙ is.many in
      let member : t < threads = subst (λ (n : ℕ). t < n) many (access-known m entry access may) in
      let mine : makes t (entry ∷ rest) ≡ pair_of entry ∷ makes t rest = ap (map pair_of) (own_entry t entry rest refl) in
      record {
        may = may;
        member = member;
        first = first_step Point Step (MayEnd t) (p t) (makes t (entry ∷ rest)) (go t member) (pair_of entry) (makes t rest) mine;
      }

  from_here : IsKept → (front past back : List Entry) (p : ℕ → Point) → Holds past p → IsArmLegal start (past ++ (front ++ back)) → AreAccesses (past ++ (front ++ back))
      → ((t : ℕ) → t < threads → Goes Point Step (MayEnd t) (p t) (makes t (front ++ back))) → IsAt (past ++ front) back
  from_here is [] past back p holds legal are go =
      record { points = p; holds = subst (λ l. Holds l p) (sym (append-nil past)) holds; go = go }
  from_here is (entry ∷ front) past back p holds legal are go =
      let t = thread_of entry in
      let rest = front ++ back in
      let access = first_access past entry rest are in
      let next = next_step is past p entry rest access legal go in
      let first = next.first in
      let made : IsMade (monitor_after start past) t entry (pair_of entry) = record { own = refl; access = access; may = next.may; are = refl } in
      let later : Holds (past ++ entry ∷ []) (updated p t first.later) = is.kept past p t entry (pair_of entry) first.later holds next.member made first.step in
      let same : past ++ (entry ∷ rest) ≡ (past ++ entry ∷ []) ++ rest = sym (append_assoc past (entry ∷ []) rest) in
      subst (λ l. IsAt l back) (append_assoc past (entry ∷ []) front)
      (from_here is front (past ++ entry ∷ []) back (updated p t first.later) later (subst (IsArmLegal start) same legal) (subst AreAccesses same are)
      (λ u low. elim (cases_eq u t) [
        | inl own ↦
            subst (λ (k : ℕ). Goes Point Step (MayEnd k) (updated p t first.later k) (makes k rest)) (sym own)
            (subst (λ point. Goes Point Step (MayEnd t) point (makes t rest)) (sym (updated-same p t first.later)) first.rest)
        | inr other ↦
            subst (λ point. Goes Point Step (MayEnd u) point (makes u rest)) (sym (updated-other p t first.later u other))
            (subst (Goes Point Step (MayEnd u) (p u)) (ap (map pair_of) (other_entry u entry rest (λ e. other (sym e)))) (go u low))
      ]))

  -- What each access keeps holds at every point of a history, if it holds at first.
  pub at_each_point : IsKept → (history : List Entry) → IsArmLegal start (accesses_of history) → (p : ℕ → Point) → Holds [] p
      → ((t : ℕ) → t < threads → Goes Point Step (MayEnd t) (p t) (makes t (accesses_of history)))
      → (front back : List Entry) → accesses_of history ≡ front ++ back → IsAt front back
  at_each_point is history legal p holds go front back are =
      from_here is front [] back p holds (subst (IsArmLegal start) are legal) (subst AreAccesses are (accesses-are history))
      (λ t low. subst (λ l. Goes Point Step (MayEnd t) (p t) (makes t l)) are (go t low))
