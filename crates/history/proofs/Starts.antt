-- The threads that a thread has started: how they grow with the history.
use Rattle.std.proofs.Common.{◌≡◌, ℕ, ◌+◌, true, false, cond, List, [], ◌∷◌, ◌++◌, length, nat_eq, refl, sym, ap, ◌∙◌, inl, inr, arith, append-nil, append_assoc, length-append}
use Rattle.std.proofs.lemmas.Bool.{cases_Bool, eq-eqb}
use Rattle.std.proofs.lemmas.List.Sums.{sum_by-cons}
use Rattle.history.specs.Entry.{is_access, thread_of}
use Rattle.history.specs.Parts.{entries_of}
use Rattle.history.specs.Started.{is_start_by, starts_of}
use Rattle.history.specs.Starts.{Started, access_by, made_by, started_by, starts_from, starts_in}
use Rattle.history.specs.declared.entry.Entry.{Entry}
use Rattle.history.specs.declared.entry.Entry.TheVariants.{Read, Write, Fail, Clear, Watch, Miss, Begin, End, Start}

-- ---- one entry more in front

entries_of-own : (t : ℕ) (e : Entry) (es : List Entry) → nat_eq (thread_of e) t ≡ true → entries_of t (e ∷ es) ≡ e ∷ entries_of t es
entries_of-own t e es own = rw own refl

entries_of-other : (t : ℕ) (e : Entry) (es : List Entry) → nat_eq (thread_of e) t ≡ false → entries_of t (e ∷ es) ≡ entries_of t es
entries_of-other t e es other = rw other refl

made_by-cons : (t : ℕ) (e : Entry) (es : List Entry) → made_by t (e ∷ es) ≡ access_by t e + made_by t es
made_by-cons t e es = elim (cases_Bool (nat_eq (thread_of e) t)) [
  | inl own ↦ elim (cases_Bool (is_access e)) [
    | inl access ↦ rw (own, access) (omega arith)
    | inr mark ↦ rw (own, mark) (omega arith)
  ]
  | inr other ↦ rw other (omega arith)
]

-- ---- behind others

pub starts_from-append : (t count : ℕ) (front back : List Entry)
    → starts_from t count (front ++ back) ≡ starts_from t count front ++ starts_from t (count + made_by t front) back
starts_from-append t count [] back = ap (λ (n : ℕ). starts_from t n back) (omega arith)
starts_from-append t count (e ∷ front) back =
    let one = made_by-cons t e front in
    let more : count + access_by t e + made_by t front ≡ count + made_by t (e ∷ front) = omega (arith, one) in
    ap (λ (xs : List Started). started_by t count e ++ xs) (starts_from-append t (count + access_by t e) front back)
    ∙ ap (λ (n : ℕ). started_by t count e ++ (starts_from t (count + access_by t e) front ++ starts_from t n back)) more
    ∙ sym (append_assoc (started_by t count e) (starts_from t (count + access_by t e) front) (starts_from t (count + made_by t (e ∷ front)) back))

-- ---- by the thread's own entries

started_by-other : (t count : ℕ) (e : Entry) → nat_eq (thread_of e) t ≡ false → started_by t count e ≡ []
started_by-other t count (Start thread child entry arg) other = rw other refl
started_by-other t count (Read thread place value ex) other = refl
started_by-other t count (Write thread place value ex) other = refl
started_by-other t count (Fail thread place value cause) other = refl
started_by-other t count (Clear thread) other = refl
started_by-other t count (Watch thread place) other = refl
started_by-other t count (Miss thread place) other = refl
started_by-other t count (Begin thread place) other = refl
started_by-other t count (End thread place) other = refl

access_by-other : (t : ℕ) (e : Entry) → nat_eq (thread_of e) t ≡ false → access_by t e ≡ 0
access_by-other t e other = rw other refl

-- entries of other threads start none for it
pub starts_from-own : (t count : ℕ) (entries : List Entry) → starts_from t count entries ≡ starts_from t count (entries_of t entries)
starts_from-own t count [] = refl
starts_from-own t count (e ∷ es) = elim (cases_Bool (nat_eq (thread_of e) t)) [
  | inl own ↦
      ap (λ (xs : List Started). started_by t count e ++ xs) (starts_from-own t (count + access_by t e) es)
      ∙ sym (ap (starts_from t count) (entries_of-own t e es own))
  | inr other ↦
      let none : started_by t count e ≡ [] = started_by-other t count e other in
      let same : count + access_by t e ≡ count = ap (λ (n : ℕ). count + n) (access_by-other t e other) ∙ omega arith in
      ap (λ (xs : List Started). xs ++ starts_from t (count + access_by t e) es) none
      ∙ ap (λ (n : ℕ). starts_from t n es) same
      ∙ starts_from-own t count es
      ∙ sym (ap (starts_from t count) (entries_of-other t e es other))
]

-- where a thread's entries among those that were added are known, so is what it has started since
pub starts_in-more : (t : ℕ) (old added own : List Entry) → entries_of t added ≡ own
    → starts_in t (old ++ added) ≡ starts_in t old ++ starts_from t (made_by t old) own
starts_in-more t old added own mine =
    starts_from-append t 0 old added
    ∙ ap (λ (n : ℕ). starts_from t 0 old ++ starts_from t n added) (omega arith)
    ∙ ap (λ (xs : List Started). starts_from t 0 old ++ xs) (starts_from-own t (made_by t old) added ∙ ap (starts_from t (made_by t old)) mine)

-- ---- how many

one_or_none : (t count : ℕ) (e : Entry) → length (started_by t count e) ≡ cond (is_start_by t e) 1 0
one_or_none t count (Start thread child entry arg) = elim (cases_Bool (nat_eq thread t)) [ inl own ↦ rw own refl | inr other ↦ rw other refl ]
one_or_none t count (Read thread place value ex) = refl
one_or_none t count (Write thread place value ex) = refl
one_or_none t count (Fail thread place value cause) = refl
one_or_none t count (Clear thread) = refl
one_or_none t count (Watch thread place) = refl
one_or_none t count (Miss thread place) = refl
one_or_none t count (Begin thread place) = refl
one_or_none t count (End thread place) = refl

pub starts_from-length : (t count : ℕ) (history : List Entry) → length (starts_from t count history) ≡ starts_of t history
starts_from-length t count [] = refl
starts_from-length t count (e ∷ es) =
    let rest = starts_from-length t (count + access_by t e) es in
    let first = one_or_none t count e in
    let all = sum_by-cons (λ (x : Entry). cond (is_start_by t x) 1 0) e es in
    length-append (started_by t count e) (starts_from t (count + access_by t e) es) ∙ omega (arith, rest, first, all)

-- ---- an own Start, the only entry of its thread

pub starts_in-start : (t : ℕ) (old added : List Entry) (child entry arg : ℕ) → entries_of t added ≡ Start t child entry arg ∷ []
    → starts_in t (old ++ added) ≡ starts_in t old ++ record { child = child; entry = entry; arg = arg; place = made_by t old } ∷ []
starts_in-start t old added child entry arg mine =
    starts_in-more t old added (Start t child entry arg ∷ []) mine
    ∙ ap (λ (xs : List Started). starts_in t old ++ xs) (rw (eq-eqb t t refl) refl)

-- ---- own entries that start none

nothing : (xs : List Started) → length xs ≡ 0 → xs ≡ []
nothing [] none = refl
nothing (x ∷ xs) none = absurd (omega (arith, none))

pub starts_in-same : (t : ℕ) (old added own : List Entry) → entries_of t added ≡ own → starts_of t own ≡ 0
    → starts_in t (old ++ added) ≡ starts_in t old
starts_in-same t old added own mine none =
    starts_in-more t old added own mine
    ∙ ap (λ (xs : List Started). starts_in t old ++ xs) (nothing (starts_from t (made_by t old) own) (starts_from-length t (made_by t old) own ∙ none))
    ∙ append-nil (starts_in t old)
