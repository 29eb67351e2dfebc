-- What a history says of a class is how things stand of it.
use Rattle.std.proofs.Common.{◌≡◌, ℕ, ◌+◌, if◌then◌else◌, cond, List, [], ◌∷◌, ◌++◌, Option, Some, None, refl, sym, ap, ◌∙◌, inl, inr, arith}
use Rattle.std.specs.Option.{unwrap_or}
use Rattle.std.proofs.lemmas.List.Sums.{sum_by-append}
use Rattle.std.proofs.lemmas.Bool.{cases_Bool, eqb-true}
use Rattle.llsc_base.specs.Sizes.{Numbers}
use Rattle.llsc_base.specs.Memory.{class_of, row_of}
use Rattle.llsc_base.specs.declared.access.Place.{Place}
use Rattle.history.specs.Entry.{is_in_class}
use Rattle.history.specs.Class.{comer_in, edges_of, is_edge, last_of, name_of, or_earlier, writer_in}
use Rattle.history.specs.Standing.{Standing, joined, standing_after, standing_of, updated}
use Rattle.history.specs.declared.entry.Entry.{Entry}
use Rattle.history.specs.declared.entry.Entry.TheVariants.{Read, Write, Fail, Clear, Watch, Miss, Begin, End, Start}
use Rattle.history.proofs.Ends.{by_ends}
use Rattle.history.proofs.Appends.{standing_after-push}

abbrev after : Numbers → List ℕ → List Entry → Standing
after size bytes history = standing_after size (standing_of bytes) history

-- ---- Begins and Ends

edges_step : (size : Numbers) (row : ℕ) (s : Standing) (e : Entry) (count : ℕ) → s.edges (class_of size.classes row) ≡ count
    → (joined size s e).edges (class_of size.classes row) ≡ count + cond (is_edge size row e) 1 0
edges_step size row s (Begin thread place) count same = elim (cases_Bool (is_in_class size row place)) [
  | inl here ↦ rw (here, eqb-true (class_of size.classes (row_of size.granule place)) (class_of size.classes row) here, same) refl
  | inr elsewhere ↦ rw elsewhere (omega arith)
]
edges_step size row s (End thread place) count same = elim (cases_Bool (is_in_class size row place)) [
  | inl here ↦ rw (here, eqb-true (class_of size.classes (row_of size.granule place)) (class_of size.classes row) here, same) refl
  | inr elsewhere ↦ rw elsewhere (omega arith)
]
edges_step size row s (Read thread place value ex) count same = omega arith
edges_step size row s (Write thread place value ex) count same = omega arith
edges_step size row s (Fail thread place value cause) count same = omega arith
edges_step size row s (Clear thread) count same = omega arith
edges_step size row s (Watch thread place) count same = omega arith
edges_step size row s (Miss thread place) count same = omega arith
edges_step size row s (Start thread child entry arg) count same = omega arith

pub edges_of-standing : (size : Numbers) (row : ℕ) (bytes : List ℕ) (history : List Entry)
    → (standing_after size (standing_of bytes) history).edges (class_of size.classes row) ≡ edges_of size row history
edges_of-standing size row bytes history = by_ends (λ entries. (after size bytes entries).edges (class_of size.classes row) ≡ edges_of size row entries) refl more history
  where
    more : (entries : List Entry) (e : Entry) → (after size bytes entries).edges (class_of size.classes row) ≡ edges_of size row entries
        → (after size bytes (entries ++ e ∷ [])).edges (class_of size.classes row) ≡ edges_of size row (entries ++ e ∷ [])
    more entries e same =
        let one : edges_of size row (entries ++ e ∷ []) ≡ edges_of size row entries + cond (is_edge size row e) 1 0 =
        sum_by-append (λ (x : Entry). cond (is_edge size row x) 1 0) entries (e ∷ []) ∙ omega arith in
        rw (standing_after-push size (standing_of bytes) entries e, one)
        (edges_step size row (after size bytes entries) e (edges_of size row entries) same)

-- ---- who came last

or_earlier-assoc : (one two three : Option ℕ) → or_earlier (or_earlier one two) three ≡ or_earlier one (or_earlier two three)
or_earlier-assoc (Some n) two three = refl
or_earlier-assoc None two three = refl

or_earlier-none : (one : Option ℕ) → or_earlier one None ≡ one
or_earlier-none (Some n) = refl
or_earlier-none None = refl

pub last_of-push : (kind : Entry → Option ℕ) (entries : List Entry) (e : Entry) → last_of kind (entries ++ e ∷ []) ≡ or_earlier (kind e) (last_of kind entries)
last_of-push kind [] e = sym (or_earlier-none (kind e))
last_of-push kind (first ∷ entries) e =
    ap (λ (o : Option ℕ). or_earlier o (kind first)) (last_of-push kind entries e) ∙ or_earlier-assoc (kind e) (last_of kind entries) (kind first)

holder_here : (f : ℕ → ℕ) (size : Numbers) (row : ℕ) (thread : ℕ) (place : Place) (old : Option ℕ) → f (class_of size.classes row) ≡ unwrap_or old 0
    → updated f (class_of size.classes (row_of size.granule place)) thread (class_of size.classes row)
    ≡ unwrap_or (or_earlier (if is_in_class size row place then Some thread else None) old) 0
holder_here f size row thread place old same = elim (cases_Bool (is_in_class size row place)) [
  | inl here ↦ rw here refl
  | inr elsewhere ↦ rw elsewhere same
]

holder_step : (size : Numbers) (row : ℕ) (s : Standing) (e : Entry) (old : Option ℕ) → s.holder (class_of size.classes row) ≡ unwrap_or old 0
    → (joined size s e).holder (class_of size.classes row) ≡ unwrap_or (or_earlier (writer_in size row e) old) 0
holder_step size row s (Begin thread place) old same = holder_here s.holder size row thread place old same
holder_step size row s (Read thread place value ex) old same = same
holder_step size row s (Write thread place value ex) old same = same
holder_step size row s (Fail thread place value cause) old same = same
holder_step size row s (Clear thread) old same = same
holder_step size row s (Watch thread place) old same = same
holder_step size row s (Miss thread place) old same = same
holder_step size row s (End thread place) old same = same
holder_step size row s (Start thread child entry arg) old same = same

-- the thread of the last Begin
pub holder-standing : (size : Numbers) (row : ℕ) (bytes : List ℕ) (history : List Entry)
    → (standing_after size (standing_of bytes) history).holder (class_of size.classes row) ≡ unwrap_or (last_of (writer_in size row) history) 0
holder-standing size row bytes history = by_ends (λ entries. (after size bytes entries).holder (class_of size.classes row) ≡ unwrap_or (last_of (writer_in size row) entries) 0) refl more history
  where
    more : (entries : List Entry) (e : Entry) → (after size bytes entries).holder (class_of size.classes row) ≡ unwrap_or (last_of (writer_in size row) entries) 0
        → (after size bytes (entries ++ e ∷ [])).holder (class_of size.classes row) ≡ unwrap_or (last_of (writer_in size row) (entries ++ e ∷ [])) 0
    more entries e same =
        rw (standing_after-push size (standing_of bytes) entries e, last_of-push (writer_in size row) entries e)
        (holder_step size row (after size bytes entries) e (last_of (writer_in size row) entries) same)

name_here : (f : ℕ → ℕ) (size : Numbers) (row : ℕ) (thread : ℕ) (place : Place) (old : Option ℕ) → f (class_of size.classes row) ≡ name_of old
    → updated f (class_of size.classes (row_of size.granule place)) (thread + 1) (class_of size.classes row)
    ≡ name_of (or_earlier (if is_in_class size row place then Some thread else None) old)
name_here f size row thread place old same = elim (cases_Bool (is_in_class size row place)) [
  | inl here ↦ rw here refl
  | inr elsewhere ↦ rw elsewhere same
]

name_step : (size : Numbers) (row : ℕ) (s : Standing) (e : Entry) (old : Option ℕ) → s.name (class_of size.classes row) ≡ name_of old
    → (joined size s e).name (class_of size.classes row) ≡ name_of (or_earlier (comer_in size row e) old)
name_step size row s (Begin thread place) old same = name_here s.name size row thread place old same
name_step size row s (Watch thread place) old same = name_here s.name size row thread place old same
name_step size row s (Read thread place value ex) old same = same
name_step size row s (Write thread place value ex) old same = same
name_step size row s (Fail thread place value cause) old same = same
name_step size row s (Clear thread) old same = same
name_step size row s (Miss thread place) old same = same
name_step size row s (End thread place) old same = same
name_step size row s (Start thread child entry arg) old same = same

-- the name of the last Watch or Begin
pub name-standing : (size : Numbers) (row : ℕ) (bytes : List ℕ) (history : List Entry)
    → (standing_after size (standing_of bytes) history).name (class_of size.classes row) ≡ name_of (last_of (comer_in size row) history)
name-standing size row bytes history = by_ends (λ entries. (after size bytes entries).name (class_of size.classes row) ≡ name_of (last_of (comer_in size row) entries)) refl more history
  where
    more : (entries : List Entry) (e : Entry) → (after size bytes entries).name (class_of size.classes row) ≡ name_of (last_of (comer_in size row) entries)
        → (after size bytes (entries ++ e ∷ [])).name (class_of size.classes row) ≡ name_of (last_of (comer_in size row) (entries ++ e ∷ []))
    more entries e same =
        rw (standing_after-push size (standing_of bytes) entries e, last_of-push (comer_in size row) entries e)
        (name_step size row (after size bytes entries) e (last_of (comer_in size row) entries) same)
