-- What has passed in the class of a reserved row since its Watch, and how many Writes a class has had, are how things stand of them.
use Rattle.std.proofs.Common.{◌≡◌, ℕ, ◌+◌, ◌&&◌, ◌||◌, Bool, true, false, cond, List, [], ◌∷◌, ◌++◌, Option, Some, None, nat_eq, refl, sym, ap, ◌∙◌, inl, inr, arith}
use Rattle.std.specs.List.{list_any}
use Rattle.std.proofs.lemmas.List.Sums.{sum_by-append}
use Rattle.std.proofs.lemmas.Bool.{cases_Bool, eq-eqb, eqb-true}
use Rattle.llsc_base.specs.Sizes.{Numbers}
use Rattle.llsc_base.specs.Memory.{class_of, row_of}
use Rattle.llsc_base.specs.declared.access.Place.{Place}
use Rattle.history.specs.Entry.{is_in_class}
use Rattle.history.specs.Since.{Since, since_last, watch_of}
use Rattle.history.specs.Reservation.{reservation_of, reserved_since}
use Rattle.history.specs.Cause.{is_begin, is_begin_of_another, is_start_of_another, is_write, later_of, since_watch, writes_in_class}
use Rattle.history.specs.Standing.{Standing, is_of_class, joined, standing_after, standing_of}
use Rattle.history.specs.declared.entry.Entry.{Entry}
use Rattle.history.specs.declared.entry.Entry.TheVariants.{Read, Write, Fail, Clear, Watch, Miss, Begin, End, Start}
use Rattle.history.proofs.Ends.{by_ends}
use Rattle.history.proofs.Appends.{standing_after-push}
use Rattle.history.proofs.Kept.{kept_if}
use Rattle.history.proofs.Steps.{any-push, reservation_of-push, reservation_of-standing, reserved_step, since_last-push, since_step}

-- ---- what has passed since a Watch

-- a Watch that isn't the thread's
not_own : (t thread : ℕ) (place : Place) → watch_of t (Watch thread place) ≡ None → nat_eq thread t ≡ false
not_own t thread place new = elim (cases_Bool (nat_eq thread t)) [
  | inl own ↦ absurd (let some : Some place ≡ None = rw own at new in let f : ⊥ = cc in f)
  | inr other ↦ other
]

-- a Watch of the thread
record IsWatch (t : ℕ) (place : Place) (entry : Entry) : Type 0 where
  is : entry ≡ Watch t place

no_watch : (t : ℕ) (place : Place) (entry : Entry) → None ≡ Some place → IsWatch t place entry
no_watch t place entry h = absurd (let f : ⊥ = cc in f)

watch_is : (t : ℕ) (place : Place) (entry : Entry) → watch_of t entry ≡ Some place → IsWatch t place entry
watch_is t place (Watch thread at) h = elim (cases_Bool (nat_eq thread t)) [
  | inl own ↦
      let some : Some at ≡ Some place = rw own at h in
      let same : at ≡ place = cc in
      record { is = ap (λ (u : ℕ). Watch u at) (eqb-true thread t own) ∙ ap (λ (p : Place). Watch t p) same }
  | inr other ↦ absurd (let none : None ≡ Some place = rw other at h in let f : ⊥ = cc in f)
]
watch_is t place (Read thread at value ex) h = no_watch t place (Read thread at value ex) h
watch_is t place (Write thread at value ex) h = no_watch t place (Write thread at value ex) h
watch_is t place (Fail thread at value cause) h = no_watch t place (Fail thread at value cause) h
watch_is t place (Clear thread) h = no_watch t place (Clear thread) h
watch_is t place (Miss thread at) h = no_watch t place (Miss thread at) h
watch_is t place (Begin thread at) h = no_watch t place (Begin thread at) h
watch_is t place (End thread at) h = no_watch t place (End thread at) h
watch_is t place (Start thread child entry arg) h = no_watch t place (Start thread child entry arg) h

-- an entry that leaves a thread reserved, and isn't its Watch, left it so
same_row : (size : Numbers) (t : ℕ) (reserved : Option ℕ) (entry : Entry) (row : ℕ) → watch_of t entry ≡ None
    → reserved_step size t reserved entry ≡ Some row → reserved ≡ Some row
same_row size t reserved (Read thread place value ex) row new h = h
same_row size t reserved (Write thread place value ex) row new h = kept_if (nat_eq thread t && ex) reserved row h
same_row size t reserved (Fail thread place value cause) row new h = kept_if (nat_eq thread t) reserved row h
same_row size t reserved (Clear thread) row new h = kept_if (nat_eq thread t) reserved row h
same_row size t reserved (Watch thread place) row new h = rw (not_own t thread place new) at h
same_row size t reserved (Miss thread place) row new h = kept_if (nat_eq thread t) reserved row h
same_row size t reserved (Begin thread place) row new h =
    kept_if (nat_eq thread t && is_of_class size (class_of size.classes (row_of size.granule place)) reserved) reserved row h
same_row size t reserved (End thread place) row new h = h
same_row size t reserved (Start thread child entry arg) row new h = h

-- one more entry, which isn't a Watch of the thread, stands after the Watch that there is
later_more : (old : Option Since) (size : Numbers) (t row : ℕ) (entry : Entry) → reserved_since size t old ≡ Some row
    → later_of (since_step old None entry) ≡ later_of old ++ entry ∷ []
later_more None size t row entry h = absurd (let f : ⊥ = cc in f)
later_more (Some since) size t row entry h = refl

-- a flag of a thread goes with a test of entries: a Watch of the thread begins it afresh, and any other entry that passes sets it
record Goes (size : Numbers) (t : ℕ) (flag : Standing → Bool) (test : ℕ → Entry → Bool) : Type 0 where
  fresh : (s : Standing) (place : Place) → flag (joined size s (Watch t place)) ≡ false
  more : (s : Standing) (entry : Entry) (row : ℕ) → s.reserved t ≡ Some row → watch_of t entry ≡ None
      → flag (joined size s entry) ≡ (flag s || test row entry)

abbrev FlagIs : Numbers → ℕ → List ℕ → (Standing → Bool) → (ℕ → Entry → Bool) → ℕ → List Entry → Type 0
FlagIs size t bytes flag test row history = reservation_of size t history ≡ Some row
    → list_any (test row) (since_watch t history) ≡ flag (standing_after size (standing_of bytes) history)

abbrev after : Numbers → List ℕ → List Entry → Standing
after size bytes history = standing_after size (standing_of bytes) history

flag_step : (size : Numbers) (t : ℕ) (bytes : List ℕ) (flag : Standing → Bool) (test : ℕ → Entry → Bool) → Goes size t flag test
    → (row : ℕ) (entries : List Entry) (e : Entry) → FlagIs size t bytes flag test row entries
    → (watch : Option Place) → watch_of t e ≡ watch → FlagIs size t bytes flag test row (entries ++ e ∷ [])
flag_step size t bytes flag test goes row entries e before (Some place) own reserved =
    let is = watch_is t place e own in
    let since : since_watch t (entries ++ e ∷ []) ≡ [] = ap later_of (since_last-push (watch_of t) entries e) ∙ ap (λ (k : Option Place). later_of (since_step (since_last (watch_of t) entries) k e)) own in
    rw (since, standing_after-push size (standing_of bytes) entries e)
    (sym (ap (λ (x : Entry). flag (joined size (after size bytes entries) x)) is.is ∙ goes.fresh (after size bytes entries) place))
flag_step size t bytes flag test goes row entries e before None other reserved =
    let old = since_last (watch_of t) entries in
    let was : reservation_of size t entries ≡ Some row = same_row size t (reservation_of size t entries) e row other (sym (reservation_of-push size t entries e) ∙ reserved) in
    let since : since_watch t (entries ++ e ∷ []) ≡ since_watch t entries ++ e ∷ [] =
    ap later_of (since_last-push (watch_of t) entries e)
    ∙ ap (λ (k : Option Place). later_of (since_step old k e)) other
    ∙ later_more old size t row e was in
    let s = after size bytes entries in
    rw (since, standing_after-push size (standing_of bytes) entries e)
    (any-push (test row) (since_watch t entries) e
    ∙ ap (λ (b : Bool). b || test row e) (before was)
    ∙ sym (goes.more s e row (sym (reservation_of-standing size t bytes entries) ∙ was) other))

flag_is : (size : Numbers) (t : ℕ) (bytes : List ℕ) (flag : Standing → Bool) (test : ℕ → Entry → Bool) → Goes size t flag test
    → (row : ℕ) (history : List Entry) → FlagIs size t bytes flag test row history
flag_is size t bytes flag test goes row history = by_ends (FlagIs size t bytes flag test row)
    (λ none. absurd (let f : ⊥ = cc in f))
    (λ entries e before. flag_step size t bytes flag test goes row entries e before (watch_of t e) refl)
    history

-- ---- the three flags

or_false : (b : Bool) → b ≡ (b || false)
or_false true = refl
or_false false = refl

passes : (size : Numbers) (t : ℕ) → Goes size t (λ s. s.passed t) (is_start_of_another size t)
passes size t = record { fresh = λ s place. rw (eq-eqb t t refl) refl; more = more }
  where
    more : (s : Standing) (entry : Entry) (row : ℕ) → s.reserved t ≡ Some row → watch_of t entry ≡ None
        → (joined size s entry).passed t ≡ (s.passed t || is_start_of_another size t row entry)
    more s (Read thread place value ex) row reserved other = or_false (s.passed t)
    more s (Write thread place value ex) row reserved other = or_false (s.passed t)
    more s (Fail thread place value cause) row reserved other = or_false (s.passed t)
    more s (Clear thread) row reserved other = or_false (s.passed t)
    more s (Watch thread place) row reserved other = rw (not_own t thread place other, reserved) refl
    more s (Miss thread place) row reserved other = or_false (s.passed t)
    more s (Begin thread place) row reserved other = elim (cases_Bool (nat_eq thread t)) [
      | inl own ↦ rw own (ap s.passed (eqb-true thread t own) ∙ or_false (s.passed t))
      | inr another ↦ rw (another, reserved) refl
    ]
    more s (End thread place) row reserved other = or_false (s.passed t)
    more s (Start thread child entry arg) row reserved other = or_false (s.passed t)

overtakes : (size : Numbers) (t : ℕ) → Goes size t (λ s. s.overtaken t) (is_begin_of_another size t)
overtakes size t = record { fresh = λ s place. rw (eq-eqb t t refl) refl; more = more }
  where
    more : (s : Standing) (entry : Entry) (row : ℕ) → s.reserved t ≡ Some row → watch_of t entry ≡ None
        → (joined size s entry).overtaken t ≡ (s.overtaken t || is_begin_of_another size t row entry)
    more s (Read thread place value ex) row reserved other = or_false (s.overtaken t)
    more s (Write thread place value ex) row reserved other = or_false (s.overtaken t)
    more s (Fail thread place value cause) row reserved other = or_false (s.overtaken t)
    more s (Clear thread) row reserved other = or_false (s.overtaken t)
    more s (Watch thread place) row reserved other = rw (not_own t thread place other) (or_false (s.overtaken t))
    more s (Miss thread place) row reserved other = or_false (s.overtaken t)
    more s (Begin thread place) row reserved other = elim (cases_Bool (nat_eq thread t)) [
      | inl own ↦ rw own (ap s.overtaken (eqb-true thread t own) ∙ or_false (s.overtaken t))
      | inr another ↦ rw (another, reserved) refl
    ]
    more s (End thread place) row reserved other = or_false (s.overtaken t)
    more s (Start thread child entry arg) row reserved other = or_false (s.overtaken t)

stirs : (size : Numbers) (t : ℕ) → Goes size t (λ s. s.stirred t) (is_begin size)
stirs size t = record { fresh = λ s place. rw (eq-eqb t t refl) refl; more = more }
  where
    more : (s : Standing) (entry : Entry) (row : ℕ) → s.reserved t ≡ Some row → watch_of t entry ≡ None
        → (joined size s entry).stirred t ≡ (s.stirred t || is_begin size row entry)
    more s (Read thread place value ex) row reserved other = or_false (s.stirred t)
    more s (Write thread place value ex) row reserved other = or_false (s.stirred t)
    more s (Fail thread place value cause) row reserved other = or_false (s.stirred t)
    more s (Clear thread) row reserved other = or_false (s.stirred t)
    more s (Watch thread place) row reserved other = rw (not_own t thread place other) (or_false (s.stirred t))
    more s (Miss thread place) row reserved other = or_false (s.stirred t)
    more s (Begin thread place) row reserved other = rw reserved refl
    more s (End thread place) row reserved other = or_false (s.stirred t)
    more s (Start thread child entry arg) row reserved other = or_false (s.stirred t)

-- since the Watch of a reservation, another has had a Watch or a Begin in the class
pub passed-standing : (size : Numbers) (t row : ℕ) (bytes : List ℕ) (history : List Entry) → reservation_of size t history ≡ Some row
    → list_any (is_start_of_another size t row) (since_watch t history) ≡ (standing_after size (standing_of bytes) history).passed t
passed-standing size t row bytes history = flag_is size t bytes (λ s. s.passed t) (is_start_of_another size t) (passes size t) row history

-- another has had a Begin in the class
pub overtaken-standing : (size : Numbers) (t row : ℕ) (bytes : List ℕ) (history : List Entry) → reservation_of size t history ≡ Some row
    → list_any (is_begin_of_another size t row) (since_watch t history) ≡ (standing_after size (standing_of bytes) history).overtaken t
overtaken-standing size t row bytes history = flag_is size t bytes (λ s. s.overtaken t) (is_begin_of_another size t) (overtakes size t) row history

-- anybody has had a Begin in the class
pub stirred-standing : (size : Numbers) (t row : ℕ) (bytes : List ℕ) (history : List Entry) → reservation_of size t history ≡ Some row
    → list_any (is_begin size row) (since_watch t history) ≡ (standing_after size (standing_of bytes) history).stirred t
stirred-standing size t row bytes history = flag_is size t bytes (λ s. s.stirred t) (is_begin size) (stirs size t) row history

-- ---- Writes of a class

writes_step : (size : Numbers) (row : ℕ) (s : Standing) (e : Entry) (count : ℕ) → s.writes (class_of size.classes row) ≡ count
    → (joined size s e).writes (class_of size.classes row) ≡ count + cond (is_write size row e) 1 0
writes_step size row s (Write thread place value ex) count same = elim (cases_Bool (is_in_class size row place)) [
  | inl here ↦ rw (here, eqb-true (class_of size.classes (row_of size.granule place)) (class_of size.classes row) here, same) refl
  | inr elsewhere ↦ rw elsewhere (omega arith)
]
writes_step size row s (Read thread place value ex) count same = omega arith
writes_step size row s (Fail thread place value cause) count same = omega arith
writes_step size row s (Clear thread) count same = omega arith
writes_step size row s (Watch thread place) count same = omega arith
writes_step size row s (Miss thread place) count same = omega arith
writes_step size row s (Begin thread place) count same = omega arith
writes_step size row s (End thread place) count same = omega arith
writes_step size row s (Start thread child entry arg) count same = omega arith

-- how many Writes the class of a row has had
pub writes_in_class-standing : (size : Numbers) (row : ℕ) (bytes : List ℕ) (history : List Entry)
    → (standing_after size (standing_of bytes) history).writes (class_of size.classes row) ≡ writes_in_class size row history
writes_in_class-standing size row bytes history = by_ends (λ entries. (after size bytes entries).writes (class_of size.classes row) ≡ writes_in_class size row entries) refl more history
  where
    more : (entries : List Entry) (e : Entry) → (after size bytes entries).writes (class_of size.classes row) ≡ writes_in_class size row entries
        → (after size bytes (entries ++ e ∷ [])).writes (class_of size.classes row) ≡ writes_in_class size row (entries ++ e ∷ [])
    more entries e same =
        let one : writes_in_class size row (entries ++ e ∷ []) ≡ writes_in_class size row entries + cond (is_write size row e) 1 0 =
        sum_by-append (λ (x : Entry). cond (is_write size row x) 1 0) entries (e ∷ []) ∙ omega arith in
        rw (standing_after-push size (standing_of bytes) entries e, one)
        (writes_step size row (after size bytes entries) e (writes_in_class size row entries) same)
