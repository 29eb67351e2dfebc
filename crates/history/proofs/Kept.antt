-- A row on which a thread is marked is as the marking load-exclusive found it.
use Rattle.std.proofs.Common.{◌≡◌, ◌≢◌, ℕ, ◌+◌, ◌&&◌, Bool, true, false, if◌then◌else◌, List, [], ◌∷◌, ◌++◌, Option, Some, None, nat_eq, refl, sym, ap, subst, ◌∙◌, inl, inr, slice_index, append_assoc, length}
use Rattle.std.proofs.lemmas.List.Folds.{list_any-append}
use Rattle.std.proofs.lemmas.Bool.{and_parts, cases_Bool, cases_lt, eq-eqb, eqb-true, ne_eqb, or_from}
use Rattle.llsc_base.specs.Memory.{row_of, size_bytes, stored}
use Rattle.llsc_base.specs.declared.access.Place.{Place}
use Rattle.llsc_base.proofs.Cells.{row_of-byte}
use Rattle.llsc_base.proofs.Stores.{stored-before, stored-past}
use Rattle.history.specs.Monitor.{Monitor, accessed, at_rest_by, marked_row, monitor_after, unless_on}
use Rattle.history.specs.ArmLegal.{IsArmLegal, IsSound, MayAccess}
use Rattle.history.specs.Marked.{IsUnwrittenSince, KeepsRow, is_load_ex, is_write_in}
use Rattle.history.specs.Standing.{mark_after}
use Rattle.history.specs.declared.entry.Entry.{Entry}
use Rattle.history.specs.declared.entry.Entry.TheVariants.{Read, Write, Fail, Clear, Watch, Miss, Begin, End, Start}
use Rattle.history.proofs.Ends.{by_ends}
use Rattle.history.proofs.Appends.{IsArmLegal-front, IsArmLegal-last, monitor_after-push}
use Rattle.history.proofs.Marks.{granule-monitor_after, mark_step, marked_row-accessed, get_or-replicate_none}

-- ---- a mark that is left was there before, and a write was elsewhere

pub kept_if : (b : Bool) (mark : Option ℕ) (row : ℕ) → (if b then None else mark) ≡ Some row → mark ≡ Some row
kept_if true mark row h = cc
kept_if false mark row h = h

kept_on : (at : ℕ) (mark : Option ℕ) (row : ℕ) → unless_on at mark ≡ Some row → (mark ≡ Some row) × (at ≢ row)
kept_on at None row h = absurd (let f : ⊥ = cc in f)
kept_on at (Some marked) row h = elim (cases_Bool (nat_eq marked at)) [
  | inl on ↦ absurd (let gone : None ≡ Some row = rw on at h in let f : ⊥ = cc in f)
  | inr off ↦ let left : Some marked ≡ Some row = rw off at h in (left, λ same. absurd (let f : false ≡ true = sym off ∙ eq-eqb marked at (let is : marked ≡ row = cc in is ∙ sym same) in let g : ⊥ = cc in g))
]

kept_after : (ends : Bool) (at : ℕ) (mark : Option ℕ) (row : ℕ) → mark_after mark ends at ≡ Some row → (mark ≡ Some row) × (at ≢ row)
kept_after true at mark row h = absurd (let f : ⊥ = cc in f)
kept_after false at mark row h = kept_on at mark row h

-- a store of another row keeps the row
pub stored-keeps : (granule : ℕ) (memory : List ℕ) (place : Place) (value row thread threads : ℕ) → IsSound threads (length memory) thread place value
    → row_of granule place ≢ row → KeepsRow granule row memory (stored memory place value)
stored-keeps granule memory place value row thread threads sound elsewhere k here = elim (cases_lt k place.addr) [
  | inl low ↦ stored-before memory place value k sound.inside low
  | inr from ↦ elim (cases_lt k (place.addr + size_bytes place.size)) [
    | inl below ↦ absurd (elsewhere (sym (row_of-byte granule place k sound.aligned from below) ∙ here))
    | inr past ↦ stored-past memory place value k sound.inside past
  ]
]

-- what an entry that isn't the thread's load-exclusive leaves of its mark, and that it is no write in the row
left : (m : Monitor) (e : Entry) (t row : ℕ) → MayAccess m e → is_load_ex t e ≡ false → mark_step m.granule t (marked_row m t) e ≡ Some row
    → (marked_row m t ≡ Some row) × KeepsRow m.granule row m.memory (accessed m e).memory × (is_write_in m.granule row e ≡ false)
left m (Read thread place value true) t row may other h = elim (cases_Bool (nat_eq thread t)) [
  | inl own ↦ absurd (let f : ⊥ = (let e : true ≡ false = rw own at other in cc) in f)
  | inr another ↦ (rw another at h, (λ k here. refl), refl)
]
left m (Read thread place value false) t row may other h = (h, (λ k here. refl), refl)
left m (Write thread place value true) t row may other h =
    let was = kept_after (nat_eq thread t && true) (row_of m.granule place) (marked_row m t) row h in
    (was.0, stored-keeps m.granule m.memory place value row thread (length m.marks) may.0 was.1, ne_eqb (row_of m.granule place) row was.1)
left m (Write thread place value false) t row may other h =
    let was = kept_after (nat_eq thread t && false) (row_of m.granule place) (marked_row m t) row h in
    (was.0, stored-keeps m.granule m.memory place value row thread (length m.marks) may.0 was.1, ne_eqb (row_of m.granule place) row was.1)
left m (Fail thread place value cause) t row may other h = (kept_if (nat_eq thread t) (marked_row m t) row h, (λ k here. refl), refl)
left m (Clear thread) t row may other h = (kept_if (nat_eq thread t) (marked_row m t) row h, (λ k here. refl), refl)
left m (Watch thread place) t row may other h = (h, (λ k here. refl), refl)
left m (Miss thread place) t row may other h = (h, (λ k here. refl), refl)
left m (Begin thread place) t row may other h = (h, (λ k here. refl), refl)
left m (End thread place) t row may other h = (h, (λ k here. refl), refl)
left m (Start thread child entry arg) t row may other h = (h, (λ k here. refl), refl)

-- ---- over a list

abbrev MarksKeep : Monitor → ℕ → ℕ → List Entry → Type 0
MarksKeep start t row accesses = IsArmLegal start accesses → marked_row (monitor_after start accesses) t ≡ Some row → IsUnwrittenSince start accesses t row

-- one more entry that isn't the thread's load-exclusive
later : (start : Monitor) (t row : ℕ) (entries : List Entry) (e : Entry) → MarksKeep start t row entries
    → is_load_ex t e ≡ false → MarksKeep start t row (entries ++ e ∷ [])
later start t row entries e before other legal marked =
    let m = monitor_after start entries in
    let next = IsArmLegal-last start entries e legal in
    let after : accessed m e ≡ monitor_after start (entries ++ e ∷ []) = sym (monitor_after-push start entries e) in
    let here : marked_row (accessed m e) t ≡ Some row = let P : Monitor → Type 0 = λ x. marked_row x t ≡ Some row in subst P (sym after) marked in
    let was = left m e t row next other (sym (marked_row-accessed m e t next) ∙ here) in
    let width : m.granule ≡ start.granule = granule-monitor_after start entries in
    let keeps : KeepsRow start.granule row m.memory (accessed m e).memory = subst (λ (g : ℕ). KeepsRow g row m.memory (accessed m e).memory) width was.1 in
    let no_write : is_write_in start.granule row e ≡ false = subst (λ (g : ℕ). is_write_in g row e ≡ false) width was.2 in
    let since = before (IsArmLegal-front start entries (e ∷ []) legal) was.0 in
    record {
      before = since.before;
      place = since.place;
      value = since.value;
      later = since.later ++ e ∷ [];
      are = ap (λ (xs : List Entry). xs ++ e ∷ []) since.are ∙ append_assoc since.before (Read t since.place since.value true ∷ since.later) (e ∷ []);
      last = list_any-append (is_load_ex t) since.later (e ∷ []) ∙ or_from _ _ since.last (or_from _ _ other refl);
      of_row = since.of_row;
      unwritten = list_any-append (is_write_in start.granule row) since.later (e ∷ []) ∙ or_from _ _ since.unwritten (or_from _ _ no_write refl);
      kept = λ k at. ap (λ (x : Monitor). slice_index x.memory k) (sym after) ∙ keeps k at ∙ since.kept k at;
    }

record LoadEx (t : ℕ) (e : Entry) : Type 0 where
  place : Place
  value : ℕ
  is : e ≡ Read t place value true

no_load_ex : (t : ℕ) (e : Entry) → false ≡ true → LoadEx t e
no_load_ex t e h = absurd (let f : ⊥ = cc in f)

load_ex : (t : ℕ) (e : Entry) → is_load_ex t e ≡ true → LoadEx t e
load_ex t (Read thread place value ex) h =
    let parts = and_parts (nat_eq thread t) ex h in
    record { place = place; value = value; is = ap (λ (u : ℕ). Read u place value ex) (eqb-true thread t parts.0) ∙ ap (λ (b : Bool). Read t place value b) parts.1 }
load_ex t (Write thread place value ex) h = no_load_ex t (Write thread place value ex) h
load_ex t (Fail thread place value cause) h = no_load_ex t (Fail thread place value cause) h
load_ex t (Clear thread) h = no_load_ex t (Clear thread) h
load_ex t (Watch thread place) h = no_load_ex t (Watch thread place) h
load_ex t (Miss thread place) h = no_load_ex t (Miss thread place) h
load_ex t (Begin thread place) h = no_load_ex t (Begin thread place) h
load_ex t (End thread place) h = no_load_ex t (End thread place) h
load_ex t (Start thread child entry arg) h = no_load_ex t (Start thread child entry arg) h

-- the thread's load-exclusive as the last entry
just_now : (start : Monitor) (t row : ℕ) (entries : List Entry) (place : Place) (value : ℕ)
    → MarksKeep start t row (entries ++ Read t place value true ∷ [])
just_now start t row entries place value legal marked =
    let m = monitor_after start entries in
    let e = Read t place value true in
    let next = IsArmLegal-last start entries e legal in
    let after : accessed m e ≡ monitor_after start (entries ++ e ∷ []) = sym (monitor_after-push start entries e) in
    let here : marked_row (accessed m e) t ≡ Some row = let P : Monitor → Type 0 = λ x. marked_row x t ≡ Some row in subst P (sym after) marked in
    let set : mark_step m.granule t (marked_row m t) e ≡ Some row = sym (marked_row-accessed m e t next) ∙ here in
    let own : Some (row_of m.granule place) ≡ Some row = rw (eq-eqb t t refl) at set in
    let of : row_of m.granule place ≡ row = cc in
    record {
      before = entries;
      place = place;
      value = value;
      later = [];
      are = refl;
      last = refl;
      of_row = ap (λ (g : ℕ). row_of g place) (sym (granule-monitor_after start entries)) ∙ of;
      unwritten = refl;
      kept = λ k at. ap (λ (x : Monitor). slice_index x.memory k) (sym after);
    }

more : (start : Monitor) (t row : ℕ) (entries : List Entry) (e : Entry) → MarksKeep start t row entries → MarksKeep start t row (entries ++ e ∷ [])
more start t row entries e before = elim (cases_Bool (is_load_ex t e)) [
  | inl own ↦
      let is = load_ex t e own in
      let P : Entry → Type 0 = λ x. MarksKeep start t row (entries ++ x ∷ []) in
      subst P (sym is.is) (just_now start t row entries is.place is.value)
  | inr other ↦ later start t row entries e before other
]

-- where a thread is marked on a row after accesses that Arm allows, its last load-exclusive read the row, in which nobody
-- has written since
pub marks_keep : (granule : ℕ) (bytes : List ℕ) (threads t row : ℕ) (accesses : List Entry) → IsArmLegal (at_rest_by granule bytes threads) accesses
    → marked_row (monitor_after (at_rest_by granule bytes threads) accesses) t ≡ Some row → IsUnwrittenSince (at_rest_by granule bytes threads) accesses t row
marks_keep granule bytes threads t row accesses = by_ends (MarksKeep (at_rest_by granule bytes threads) t row)
    (λ legal marked. absurd (let none : None ≡ Some row = sym (get_or-replicate_none threads t) ∙ marked in let f : ⊥ = cc in f))
    (more (at_rest_by granule bytes threads) t row)
    accesses

-- where a store-exclusive succeeds its thread is marked on its row
pub store_keeps : (granule : ℕ) (bytes : List ℕ) (threads thread : ℕ) (place : Place) (value : ℕ) (front back : List Entry)
    → IsArmLegal (at_rest_by granule bytes threads) (front ++ (Write thread place value true ∷ back))
    → IsUnwrittenSince (at_rest_by granule bytes threads) front thread (row_of granule place)
store_keeps granule bytes threads thread place value front back legal =
    let start = at_rest_by granule bytes threads in
    let e = Write thread place value true in
    let whole : IsArmLegal start ((front ++ e ∷ []) ++ back) = subst (IsArmLegal start) (sym (append_assoc front (e ∷ []) back)) legal in
    let with_it = IsArmLegal-front start (front ++ e ∷ []) back whole in
    marks_keep granule bytes threads thread (row_of granule place) front (IsArmLegal-front start front (e ∷ []) with_it)
    ((IsArmLegal-last start front e with_it).1 refl ∙ ap (λ (g : ℕ). Some (row_of g place)) (granule-monitor_after start front))
