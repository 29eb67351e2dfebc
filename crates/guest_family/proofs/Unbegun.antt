-- A thread that has not begun has no entries.
use Rattle.std.proofs.Common.{◌≡◌, ◌⊎◌, ◌<◌, ◌||◌, ℕ, Bool, true, Contains, List, [], ◌∷◌, ◌++◌, map, nat_eq, ⊎_elim, inl, inr, refl, sym, ap, subst, ◌∙◌, zero-add, eq-eqb, arith}
use Rattle.std.specs.List.{flat_map, range_with_len}
use Rattle.std.proofs.lemmas.Bool.{cases_Bool, cases_eq, eqb-true}
use Rattle.std.proofs.lemmas.List.{map-append}
use Rattle.std.proofs.lemmas.Map.Made.{Contains-tail}
use Rattle.std.proofs.lemmas.List.Elements.{Contains-append_left, Contains-append_right, Contains-push}
use Rattle.std.proofs.lemmas.List.FromFn.{get_or-range_with_len, length-range_with_len}
use Rattle.history.specs.Entry.{thread_of}
use Rattle.history.specs.Parts.{entries_of}
use Rattle.history.specs.Started.{AreBorn, MayAct, MayStand, is_start_of, is_started}
use Rattle.history.specs.Starts.{Started, made_by, starts_from, starts_in}
use Rattle.history.specs.declared.entry.Entry.{Entry}
use Rattle.history.specs.declared.entry.Entry.TheVariants.{Read, Write, Fail, Clear, Watch, Miss, Begin, End, Start}
use Rattle.history.proofs.Appends.{entries_of-append}
use Rattle.history.proofs.Born.{may-act-later}
use Rattle.history.proofs.Cuts.{each-front, each-last}
use Rattle.history.proofs.Ends.{by_ends}
use Rattle.history.proofs.Starts.{starts_in-more, starts_in-start}
use Rattle.history.proofs.Steps.{any-push}
use Rattle.guest_thread.specs.Begun.{begun_in, children_of}

-- ---- threads that were started

-- those that a thread has started it has started later on
later_child : (s t : ℕ) (old added : List Entry) → Contains (children_of s old) t → Contains (children_of s (old ++ added)) t
later_child s t old added has =
    let more : children_of s (old ++ added) ≡ children_of s old ++ map (λ (x : Started). x.child) (starts_from s (made_by s old) (entries_of s added)) =
    ap (map (λ (x : Started). x.child)) (starts_in-more s old added (entries_of s added) refl)
    ∙ map-append (λ (x : Started). x.child) (starts_in s old) (starts_from s (made_by s old) (entries_of s added)) in
    subst (λ (ts : List ℕ). Contains ts t) (sym more) (Contains-append_left (children_of s old) _ t has)

last_child : (s t entry arg : ℕ) (old : List Entry) → Contains (children_of s (old ++ Start s t entry arg ∷ [])) t
last_child s t entry arg old =
    let own : entries_of s (Start s t entry arg ∷ []) ≡ Start s t entry arg ∷ [] = rw (eq-eqb s s refl) refl in
    let more : children_of s (old ++ Start s t entry arg ∷ []) ≡ children_of s old ++ t ∷ [] =
    ap (map (λ (x : Started). x.child)) (starts_in-start s old (Start s t entry arg ∷ []) t entry arg own)
    ∙ map-append (λ (x : Started). x.child) (starts_in s old) (record { child = t; entry = entry; arg = arg; place = made_by s old } ∷ []) in
    subst (λ (ts : List ℕ). Contains ts t) (sym more) (Contains-push (children_of s old) t)

by_last : (first spare t : ℕ) (past : List Entry) (e : Entry) → MayStand first spare past e → is_start_of t e ≡ true
    → (s : ℕ) × (s < first) × Contains (children_of s (past ++ e ∷ [])) t
by_last first spare t past (Start s child entry arg) may is =
    let same : child ≡ t = eqb-true child t is in
    (s, may.0, subst (λ (c : ℕ). Contains (children_of s (past ++ Start s c entry arg ∷ [])) t) (sym same) (last_child s t entry arg past))
by_last first spare t past (Read thread place value ex) may is = absurd (let f : ⊥ = cc in f)
by_last first spare t past (Write thread place value ex) may is = absurd (let f : ⊥ = cc in f)
by_last first spare t past (Fail thread place value cause) may is = absurd (let f : ⊥ = cc in f)
by_last first spare t past (Clear thread) may is = absurd (let f : ⊥ = cc in f)
by_last first spare t past (Watch thread place) may is = absurd (let f : ⊥ = cc in f)
by_last first spare t past (Miss thread place) may is = absurd (let f : ⊥ = cc in f)
by_last first spare t past (Begin thread place) may is = absurd (let f : ⊥ = cc in f)
by_last first spare t past (End thread place) may is = absurd (let f : ⊥ = cc in f)

-- a thread that was started is among those that one of the first has started
has_starter : (first spare t : ℕ) (history : List Entry) → AreBorn first spare history → is_started t history ≡ true
    → (s : ℕ) × (s < first) × Contains (children_of s history) t
has_starter first spare t history =
    by_ends (λ es. AreBorn first spare es → is_started t es ≡ true → (s : ℕ) × (s < first) × Contains (children_of s es) t) (λ born started. absurd (let f : ⊥ = cc in f)) more history
  where
    more : (entries : List Entry) (e : Entry) → (AreBorn first spare entries → is_started t entries ≡ true → (s : ℕ) × (s < first) × Contains (children_of s entries) t)
        → AreBorn first spare (entries ++ e ∷ []) → is_started t (entries ++ e ∷ []) ≡ true → (s : ℕ) × (s < first) × Contains (children_of s (entries ++ e ∷ [])) t
    more entries e before born started = elim (cases_Bool (is_started t entries)) [
      | inl early ↦
          let is = before (each-front (MayStand first spare) entries (e ∷ []) born) early in
          (is.0, is.1, later_child is.0 t entries (e ∷ []) is.2)
      | inr none ↦
          let last : is_start_of t e ≡ true = sym (ap (λ (b : Bool). b || is_start_of t e) none) ∙ sym (any-push (is_start_of t) entries e) ∙ started in
          by_last first spare t entries e (each-last (MayStand first spare) entries e born) last
    ]

-- ---- threads that act

acts_by : (first spare : ℕ) (past : List Entry) (e : Entry) → MayStand first spare past e → MayAct first (thread_of e) past
acts_by first spare past (Start s child entry arg) may = inl may.0
acts_by first spare past (Read thread place value ex) may = may
acts_by first spare past (Write thread place value ex) may = may
acts_by first spare past (Fail thread place value cause) may = may
acts_by first spare past (Clear thread) may = may
acts_by first spare past (Watch thread place) may = may
acts_by first spare past (Miss thread place) may = may
acts_by first spare past (Begin thread place) may = may
acts_by first spare past (End thread place) may = may

-- a thread has no entries, or may act
none_or_acts : (first spare t : ℕ) (history : List Entry) → AreBorn first spare history → (entries_of t history ≡ []) ⊎ MayAct first t history
none_or_acts first spare t history = by_ends (λ es. AreBorn first spare es → (entries_of t es ≡ []) ⊎ MayAct first t es) (λ born. inl refl) more history
  where
    one : (entries : List Entry) (e : Entry) → MayStand first spare entries e → entries_of t entries ≡ [] → (entries_of t (entries ++ e ∷ []) ≡ []) ⊎ MayAct first t (entries ++ e ∷ [])
    one entries e may none = elim (cases_Bool (nat_eq (thread_of e) t)) [
      | inl own ↦ inr (may-act-later first t entries (e ∷ []) (subst (λ (u : ℕ). MayAct first u entries) (eqb-true (thread_of e) t own) (acts_by first spare entries e may)))
      | inr other ↦
          let last : entries_of t (e ∷ []) ≡ [] = rw other refl in
          inl (entries_of-append t entries (e ∷ []) ∙ ap (λ (es : List Entry). es ++ entries_of t (e ∷ [])) none ∙ last)
    ]

    more : (entries : List Entry) (e : Entry) → (AreBorn first spare entries → (entries_of t entries ≡ []) ⊎ MayAct first t entries)
        → AreBorn first spare (entries ++ e ∷ []) → (entries_of t (entries ++ e ∷ []) ≡ []) ⊎ MayAct first t (entries ++ e ∷ [])
    more entries e before born = ⊎_elim (one entries e (each-last (MayStand first spare) entries e born)) (λ acts. inr (may-act-later first t entries (e ∷ []) acts))
        (before (each-front (MayStand first spare) entries (e ∷ []) born))

-- ---- threads that have begun

below_all : (first t : ℕ) → t < first → Contains (range_with_len 0 first) t
below_all first t below = (t, subst (λ (n : ℕ). t < n) (sym (length-range_with_len 0 first)) below, get_or-range_with_len 0 first t t below ∙ zero-add t)

-- what one of some numbers gives is among what all of them give
among_all : (f : ℕ → List ℕ) (ss : List ℕ) (s t : ℕ) → Contains ss s → Contains (f s) t → Contains (flat_map f ss) t
among_all f [] s t here has = absurd (omega (arith, here.1))
among_all f (x ∷ ss) s t here has = elim (cases_eq x s) [
  | inl same ↦ Contains-append_left (f x) (flat_map f ss) t (subst (λ (u : ℕ). Contains (f u) t) (sym same) has)
  | inr apart ↦ Contains-append_right (f x) (flat_map f ss) t (among_all f ss s t (Contains-tail x ss s apart here) has)
]

begun_by : (first spare t : ℕ) (history : List Entry) → AreBorn first spare history → MayAct first t history → Contains (begun_in first history) t
begun_by first spare t history born (inl below) = Contains-append_left (range_with_len 0 first) _ t (below_all first t below)
begun_by first spare t history born (inr started) =
    let is = has_starter first spare t history born started in
    Contains-append_right (range_with_len 0 first) _ t (among_all (λ u. children_of u history) (range_with_len 0 first) is.0 t (below_all first is.0 is.1) is.2)

-- a thread that has not begun has no entries
pub unbegun : (first spare t : ℕ) (history : List Entry) → AreBorn first spare history → (Contains (begun_in first history) t → ⊥) → entries_of t history ≡ []
unbegun first spare t history born not_begun =
    ⊎_elim (λ none. none) (λ acts. absurd (not_begun (begun_by first spare t history born acts))) (none_or_acts first spare t history born)
