-- Which threads are started after one more entry, and the words that say so.
use Rattle.std.proofs.Common.{◌≡◌, ◌≢◌, ℕ, suc, ◌+◌, ◌*◌, ◌<◌, ◌≤◌, ◌||◌, Bool, true, false, if◌then◌else◌, List, [], ◌∷◌, ◌++◌, length, slice_index, set, get_or, refl, ap, sym, ◌∙◌, subst, inl, inr, arith, append-nil, length-append, length-set, get_or-set_same, get_or-set_other}
use Rattle.std.proofs.Math.Nat.{mul-suc}
use Rattle.std.proofs.lemmas.Bool.{cases_Bool, cases_eq, eq-eqb, ne_eqb}
use Rattle.history.specs.Parts.{entries_of}
use Rattle.history.specs.Started.{is_start_of, is_started, starts_of}
use Rattle.history.specs.Starts.{made_by, starts_from}
use Rattle.history.specs.declared.entry.Entry.{Entry}
use Rattle.history.specs.declared.entry.Entry.TheVariants.{Read, Write, Fail, Clear, Watch, Miss, Begin, End, Start}
use Rattle.history.proofs.Born.{is_start}
use Rattle.history.proofs.Starts.{starts_from-length, starts_in-more}
use Rattle.history.proofs.Steps.{any-push}
use Rattle.shared_memory.specs.Layout.{words_of}
use Rattle.shared_memory.specs.declared.plans.Plan.{Plan}
use Rattle.version_rule.specs.StartWords.{AreStarts, start_mark, start_word}

or_none : (a b : Bool) → b ≡ false → (a || b) ≡ a
or_none true b none = refl
or_none false b none = none

or_one : (a b : Bool) → b ≡ true → (a || b) ≡ true
or_one true b one = refl
or_one false b one = one

-- ---- after one more entry

starts-none : (child : ℕ) (e : Entry) → is_start e ≡ false → is_start_of child e ≡ false
starts-none child (Read thread place value ex) plain = refl
starts-none child (Write thread place value ex) plain = refl
starts-none child (Fail thread place value cause) plain = refl
starts-none child (Clear thread) plain = refl
starts-none child (Watch thread place) plain = refl
starts-none child (Miss thread place) plain = refl
starts-none child (Begin thread place) plain = refl
starts-none child (End thread place) plain = refl
starts-none child (Start thread started entry arg) plain = absurd (let f : ⊥ = cc in f)

-- one that starts none
started-plain : (child : ℕ) (history : List Entry) (e : Entry) → is_start e ≡ false → is_started child (history ++ e ∷ []) ≡ is_started child history
started-plain child history e plain = any-push (is_start_of child) history e ∙ or_none (is_started child history) (is_start_of child e) (starts-none child e plain)

-- one that starts the thread
started-now : (child : ℕ) (history : List Entry) (thread entry arg : ℕ) → is_started child (history ++ Start thread child entry arg ∷ []) ≡ true
started-now child history thread entry arg =
    any-push (is_start_of child) history (Start thread child entry arg)
    ∙ or_one (is_started child history) (is_start_of child (Start thread child entry arg)) (eq-eqb child child refl)

-- one that starts another
started-other : (other child : ℕ) (history : List Entry) (thread entry arg : ℕ) → other ≢ child
    → is_started other (history ++ Start thread child entry arg ∷ []) ≡ is_started other history
started-other other child history thread entry arg ne =
    any-push (is_start_of other) history (Start thread child entry arg)
    ∙ or_none (is_started other history) (is_start_of other (Start thread child entry arg)) (ne_eqb child other (λ same. ne (sym same)))

-- ---- the words

abbrev mark : Bool → ℕ
mark started = if started then 1 else 0

-- a word that is 1 says that the thread was started
pub mark-tells : (child : ℕ) (history : List Entry) → start_mark child history ≡ 1 → is_started child history ≡ true
mark-tells child history one = elim (cases_Bool (is_started child history)) [
  | inl started ↦ started
  | inr not ↦ let is : mark false ≡ 1 = sym (ap mark not) ∙ one in absurd (omega (arith, is))
]

pub starts-still : (plan : Plan) (words : List ℕ) (history : List Entry) → AreStarts plan words history → AreStarts plan words (history ++ [])
starts-still plan words history starts = subst (AreStarts plan words) (sym (append-nil history)) starts

pub starts-plain : (plan : Plan) (words words' : List ℕ) (history : List Entry) (e : Entry) → is_start e ≡ false → length words' ≡ length words
    → ((i : ℕ) → words_of plan.size ≤ i → slice_index words' i ≡ slice_index words i) → AreStarts plan words history → AreStarts plan words' (history ++ e ∷ [])
starts-plain plan words words' history e plain as_long behind starts = record {
  long = as_long ∙ starts.long;
  marks = λ child from below. behind (start_word plan child) (omega arith) ∙ starts.marks child from below ∙ ap mark (sym (started-plain child history e plain));
}

pub starts-one : (plan : Plan) (words : List ℕ) (history : List Entry) (thread child entry arg : ℕ) → plan.first ≤ child → child < plan.size.threads
    → AreStarts plan words history → AreStarts plan (set words (start_word plan child) 1) (history ++ Start thread child entry arg ∷ [])
starts-one plan words history thread child entry arg from below starts =
    let at = start_word plan child in
    let later = history ++ Start thread child entry arg ∷ [] in
    let long = starts.long in
    let inside : at < length words = omega arith in
    record {
      long = length-set words at 1 ∙ starts.long;
      marks = λ other from_other below_other. elim (cases_eq other child) [
        | inl same ↦ ap (λ (c : ℕ). get_or (set words at 1) (start_word plan c) 0) same ∙ get_or-set_same words at 1 0 inside
            ∙ sym (ap (λ (c : ℕ). start_mark c later) same ∙ ap mark (started-now child history thread entry arg))
        | inr ne ↦ get_or-set_other words at (start_word plan other) 1 0 (λ same. ne (omega arith)) ∙ starts.marks other from_other below_other
            ∙ ap mark (sym (started-other other child history thread entry arg ne))
      ];
    }

-- ---- how many a thread has started goes by its own entries

starts_of-own : (t : ℕ) (history : List Entry) → length (starts_from t 0 (entries_of t history)) ≡ starts_of t history
starts_of-own t history = ap length (sym (starts_in-more t [] history (entries_of t history) refl)) ∙ starts_from-length t 0 history

pub starts_of-entries : (t : ℕ) (one other : List Entry) → entries_of t one ≡ entries_of t other → starts_of t one ≡ starts_of t other
starts_of-entries t one other same = sym (starts_of-own t one) ∙ ap (λ (es : List Entry). length (starts_from t 0 es)) same ∙ starts_of-own t other

-- and grows by those that it makes itself
pub starts_of-more : (t : ℕ) (old added own : List Entry) → entries_of t added ≡ own → starts_of t (old ++ added) ≡ starts_of t old + starts_of t own
starts_of-more t old added own mine =
    let before = starts_from-length t 0 old in
    let more = starts_from-length t (made_by t old) own in
    sym (starts_from-length t 0 (old ++ added)) ∙ ap length (starts_in-more t old added own mine)
    ∙ length-append (starts_from t 0 old) (starts_from t (made_by t old) own) ∙ omega (arith, before, more)

-- ---- all threads

-- they are the first ones and those that these may start
pub all-threads : (first spare threads : ℕ) → first * (1 + spare) ≡ threads → threads ≡ first + first * spare
all-threads first spare threads all =
    let up : 1 + spare ≡ suc spare = omega arith in
    let times : first * (1 + spare) ≡ first * suc spare = ap (λ (n : ℕ). first * n) up in
    let more = mul-suc first spare in
    omega (arith, all, times, more)
