-- Where a thread is marked: behind its last load-exclusive, since which it has not ended the mark itself, and nobody has written in the row.
use Rattle.std.proofs.Common.{◌≡◌, ◌≢◌, ℕ, ◌==◌, ◌&&◌, ◌||◌, Bool, true, false, List, [], ◌∷◌, ◌++◌, Option, Some, None, nat_eq, refl, sym, ap, subst, ◌∙◌, inl, inr, append_assoc}
use Rattle.std.specs.List.{list_any}
use Rattle.std.proofs.lemmas.Bool.{and_parts, cases_Bool, eq-eqb, eqb-true, ne_eqb, or_from}
use Rattle.std.proofs.lemmas.List.Folds.{list_any-append}
use Rattle.llsc_base.specs.Memory.{row_of}
use Rattle.llsc_base.specs.declared.access.Place.{Place}
use Rattle.history.specs.ArmLegal.{IsArmLegal}
use Rattle.history.specs.Marked.{is_write_in}
use Rattle.history.specs.Monitor.{Monitor, accessed, at_rest_by, marked_row, monitor_after, unless_on}
use Rattle.history.specs.Standing.{mark_after}
use Rattle.history.specs.declared.entry.Entry.{Entry}
use Rattle.history.specs.declared.entry.Entry.TheVariants.{Read, Write, Fail, Clear, Watch, Miss, Begin, End, Start}
use Rattle.history.proofs.Ends.{by_ends}
use Rattle.history.proofs.Appends.{IsArmLegal-front, IsArmLegal-last, IsArmLegal-back, monitor_after-append, monitor_after-push}
use Rattle.history.proofs.Kept.{kept_if}
use Rattle.history.proofs.Marks.{granule-monitor_after, mark_step, marked_row-accessed, get_or-replicate_none}

-- a thread's load-exclusive, store-exclusive or clear
abbrev pub is_exclusive : ℕ → Entry → Bool
is_exclusive t (Read thread place value ex) = (thread == t) && ex
is_exclusive t (Write thread place value ex) = (thread == t) && ex
is_exclusive t (Fail thread place value cause) = thread == t
is_exclusive t (Clear thread) = thread == t
is_exclusive t _ = false

-- a thread's mark on a row was set by a load-exclusive, and stands since
pub record IsMarkedBy (granule t row : ℕ) (entries : List Entry) : Type 0 where
  pub before : List Entry
  pub place : Place
  pub value : ℕ
  pub later : List Entry
  pub are : entries ≡ before ++ (Read t place value true ∷ later)
  pub of_row : row_of granule place ≡ row
  pub own : list_any (is_exclusive t) later ≡ false
  pub unwritten : list_any (is_write_in granule row) later ≡ false

-- ---- one entry that isn't an exclusive access of the thread

false_true : {A : Type 0} → false ≡ true → A
false_true e = absurd (let f : ⊥ = cc in f)

kept_on : (at : ℕ) (mark : Option ℕ) (row : ℕ) → unless_on at mark ≡ Some row → (mark ≡ Some row) × (at ≢ row)
kept_on at None row h = absurd (let f : ⊥ = cc in f)
kept_on at (Some marked) row h = elim (cases_Bool (nat_eq marked at)) [
  | inl on ↦ absurd (let gone : None ≡ Some row = rw on at h in let f : ⊥ = cc in f)
  | inr off ↦ let left : Some marked ≡ Some row = rw off at h in (left, λ same. absurd (let f : false ≡ true = sym off ∙ eq-eqb marked at (let is : marked ≡ row = cc in is ∙ sym same) in let g : ⊥ = cc in g))
]

kept_after : (ends : Bool) (at : ℕ) (mark : Option ℕ) (row : ℕ) → mark_after mark ends at ≡ Some row → (mark ≡ Some row) × (at ≢ row)
kept_after true at mark row h = absurd (let f : ⊥ = cc in f)
kept_after false at mark row h = kept_on at mark row h

-- what it leaves was there before, and it is no write in the row
left : (granule t row : ℕ) (mark : Option ℕ) (e : Entry) → is_exclusive t e ≡ false → mark_step granule t mark e ≡ Some row
    → (mark ≡ Some row) × (is_write_in granule row e ≡ false)
left granule t row mark (Read thread place value true) other h = elim (cases_Bool (nat_eq thread t)) [
  | inl own ↦ false_true (let e : true ≡ false = rw own at other in sym e)
  | inr another ↦ (rw another at h, refl)
]
left granule t row mark (Read thread place value false) other h = (h, refl)
left granule t row mark (Write thread place value true) other h =
    let was = kept_after (nat_eq thread t && true) (row_of granule place) mark row h in (was.0, ne_eqb (row_of granule place) row was.1)
left granule t row mark (Write thread place value false) other h =
    let was = kept_after (nat_eq thread t && false) (row_of granule place) mark row h in (was.0, ne_eqb (row_of granule place) row was.1)
left granule t row mark (Fail thread place value cause) other h = (kept_if (nat_eq thread t) mark row h, refl)
left granule t row mark (Clear thread) other h = (kept_if (nat_eq thread t) mark row h, refl)
left granule t row mark (Watch thread place) other h = (h, refl)
left granule t row mark (Miss thread place) other h = (h, refl)
left granule t row mark (Begin thread place) other h = (h, refl)
left granule t row mark (End thread place) other h = (h, refl)
left granule t row mark (Start thread child entry arg) other h = (h, refl)

unless_other : (at row : ℕ) → (at == row) ≡ false → unless_on at (Some row) ≡ Some row
unless_other at row apart = rw (ne_eqb row at (λ same. false_true (sym apart ∙ eq-eqb at row (sym same)))) refl

-- and it leaves the mark, where it is no write in the row
kept : (granule t row : ℕ) (e : Entry) → is_exclusive t e ≡ false → is_write_in granule row e ≡ false → mark_step granule t (Some row) e ≡ Some row
kept granule t row (Read thread place value true) other apart = elim (cases_Bool (nat_eq thread t)) [
  | inl own ↦ false_true (let e : true ≡ false = rw own at other in sym e)
  | inr another ↦ rw another refl
]
kept granule t row (Read thread place value false) other apart = refl
kept granule t row (Write thread place value true) other apart = elim (cases_Bool (nat_eq thread t)) [
  | inl own ↦ false_true (let e : true ≡ false = rw own at other in sym e)
  | inr another ↦ rw another (unless_other (row_of granule place) row apart)
]
kept granule t row (Write thread place value false) other apart = elim (cases_Bool (nat_eq thread t)) [
  | inl own ↦ rw own (unless_other (row_of granule place) row apart)
  | inr another ↦ rw another (unless_other (row_of granule place) row apart)
]
kept granule t row (Fail thread place value cause) other apart = rw other refl
kept granule t row (Clear thread) other apart = rw other refl
kept granule t row (Watch thread place) other apart = refl
kept granule t row (Miss thread place) other apart = refl
kept granule t row (Begin thread place) other apart = refl
kept granule t row (End thread place) other apart = refl
kept granule t row (Start thread child entry arg) other apart = refl

-- ---- an exclusive access of the thread that leaves a mark is a load-exclusive

record LoadEx (granule t row : ℕ) (e : Entry) : Type 0 where
  place : Place
  value : ℕ
  is : e ≡ Read t place value true
  of_row : row_of granule place ≡ row

no_load_ex : (granule t row : ℕ) (e : Entry) → None ≡ Some row → LoadEx granule t row e
no_load_ex granule t row e h = absurd (let f : ⊥ = cc in f)

load_ex : (granule t row : ℕ) (mark : Option ℕ) (e : Entry) → is_exclusive t e ≡ true → mark_step granule t mark e ≡ Some row → LoadEx granule t row e
load_ex granule t row mark (Read thread place value true) own h =
    let same : thread ≡ t = eqb-true thread t (and_parts (nat_eq thread t) true own).0 in
    let is_t : nat_eq thread t ≡ true = eq-eqb thread t same in
    let set : Some (row_of granule place) ≡ Some row = rw is_t at h in
    record { place = place; value = value; is = ap (λ (u : ℕ). Read u place value true) same; of_row = cc }
load_ex granule t row mark (Read thread place value false) own h = false_true (sym (let e : (nat_eq thread t && false) ≡ false = both_false (nat_eq thread t) in e) ∙ own)
  where
    both_false : (b : Bool) → (b && false) ≡ false
    both_false true = refl
    both_false false = refl
load_ex granule t row mark (Write thread place value true) own h =
    no_load_ex granule t row (Write thread place value true) (let e : None ≡ Some row = rw (and_parts (nat_eq thread t) true own).0 at h in e)
load_ex granule t row mark (Write thread place value false) own h = false_true (let e : false ≡ true = sym (both_false (nat_eq thread t)) ∙ own in e)
  where
    both_false : (b : Bool) → (b && false) ≡ false
    both_false true = refl
    both_false false = refl
load_ex granule t row mark (Fail thread place value cause) own h = no_load_ex granule t row (Fail thread place value cause) (let e : None ≡ Some row = rw own at h in e)
load_ex granule t row mark (Clear thread) own h = no_load_ex granule t row (Clear thread) (let e : None ≡ Some row = rw own at h in e)
load_ex granule t row mark (Watch thread place) own h = false_true own
load_ex granule t row mark (Miss thread place) own h = false_true own
load_ex granule t row mark (Begin thread place) own h = false_true own
load_ex granule t row mark (End thread place) own h = false_true own
load_ex granule t row mark (Start thread child entry arg) own h = false_true own

-- ---- a list

or_parts : (a b : Bool) → (a || b) ≡ false → (a ≡ false) × (b ≡ false)
or_parts true b h = cc
or_parts false b h = (refl, h)

kept_all : (granule t row : ℕ) (m : Monitor) (es : List Entry) → IsArmLegal m es → m.granule ≡ granule → marked_row m t ≡ Some row
    → list_any (is_exclusive t) es ≡ false → list_any (is_write_in granule row) es ≡ false → marked_row (monitor_after m es) t ≡ Some row
kept_all granule t row m [] legal width marked own apart = marked
kept_all granule t row m (e ∷ es) legal width marked own apart =
    let mine = or_parts (is_exclusive t e) (list_any (is_exclusive t) es) own in
    let theirs = or_parts (is_write_in granule row e) (list_any (is_write_in granule row) es) apart in
    kept_all granule t row (accessed m e) es legal.1 width
    (marked_row-accessed m e t legal.0 ∙ ap (λ (g : ℕ). mark_step g t (marked_row m t) e) width ∙ ap (λ (mark : Option ℕ). mark_step granule t mark e) marked ∙ kept granule t row e mine.0 theirs.0)
    mine.1 theirs.1

module _ (granule threads t row : ℕ) (bytes : List ℕ) where
  -- a mark was set so
  abbrev Has : List Entry → Type 0
  Has entries = IsArmLegal (at_rest_by granule bytes threads) entries → marked_row (monitor_after (at_rest_by granule bytes threads) entries) t ≡ Some row → IsMarkedBy granule t row entries

  step_of : (entries : List Entry) (e : Entry) → IsArmLegal (at_rest_by granule bytes threads) (entries ++ e ∷ [])
      → marked_row (monitor_after (at_rest_by granule bytes threads) (entries ++ e ∷ [])) t
      ≡ mark_step granule t (marked_row (monitor_after (at_rest_by granule bytes threads) entries) t) e
  step_of entries e legal =
      let m = monitor_after (at_rest_by granule bytes threads) entries in
      ap (λ (x : Monitor). marked_row x t) (monitor_after-push (at_rest_by granule bytes threads) entries e)
      ∙ marked_row-accessed m e t (IsArmLegal-last (at_rest_by granule bytes threads) entries e legal)
      ∙ ap (λ (g : ℕ). mark_step g t (marked_row m t) e) (granule-monitor_after (at_rest_by granule bytes threads) entries)

  more : (entries : List Entry) (e : Entry) → Has entries → Has (entries ++ e ∷ [])
  more entries e before legal marked = elim (cases_Bool (is_exclusive t e)) [
    | inl own ↦
        let set = load_ex granule t row (marked_row (monitor_after (at_rest_by granule bytes threads) entries) t) e own (sym (step_of entries e legal) ∙ marked) in
        record {
          before = entries;
          place = set.place;
          value = set.value;
          later = [];
          are = ap (λ (x : Entry). entries ++ x ∷ []) set.is;
          of_row = set.of_row;
          own = refl;
          unwritten = refl;
        }
    | inr other ↦
        let was = left granule t row (marked_row (monitor_after (at_rest_by granule bytes threads) entries) t) e other (sym (step_of entries e legal) ∙ marked) in
        let by = before (IsArmLegal-front (at_rest_by granule bytes threads) entries (e ∷ []) legal) was.0 in
        record {
          before = by.before;
          place = by.place;
          value = by.value;
          later = by.later ++ e ∷ [];
          are = ap (λ (xs : List Entry). xs ++ e ∷ []) by.are ∙ append_assoc by.before (Read t by.place by.value true ∷ by.later) (e ∷ []);
          of_row = by.of_row;
          own = list_any-append (is_exclusive t) by.later (e ∷ []) ∙ or_from _ _ by.own (or_from _ _ other refl);
          unwritten = list_any-append (is_write_in granule row) by.later (e ∷ []) ∙ or_from _ _ by.unwritten (or_from _ _ was.1 refl);
        }
  ]

  pub marked_by : (entries : List Entry) → Has entries
  marked_by entries = by_ends Has
      (λ legal marked. absurd (let none : None ≡ Some row = sym (get_or-replicate_none threads t) ∙ marked in let f : ⊥ = cc in f))
      more entries

  -- and where it was set so, it is there
  pub is_marked : (entries : List Entry) → IsArmLegal (at_rest_by granule bytes threads) entries → IsMarkedBy granule t row entries
      → marked_row (monitor_after (at_rest_by granule bytes threads) entries) t ≡ Some row
  is_marked entries legal by =
      let m = monitor_after (at_rest_by granule bytes threads) by.before in
      let e = Read t by.place by.value true in
      let back = IsArmLegal-back (at_rest_by granule bytes threads) by.before (e ∷ by.later) (subst (IsArmLegal (at_rest_by granule bytes threads)) by.are legal) in
      let width : m.granule ≡ granule = granule-monitor_after (at_rest_by granule bytes threads) by.before in
      let set : mark_step granule t (marked_row m t) e ≡ Some row = rw (eq-eqb t t refl) (ap Some by.of_row) in
      ap (λ (es : List Entry). marked_row (monitor_after (at_rest_by granule bytes threads) es) t) by.are
      ∙ ap (λ (x : Monitor). marked_row x t) (monitor_after-append (at_rest_by granule bytes threads) by.before (e ∷ by.later))
      ∙ kept_all granule t row (accessed m e) by.later back.1 width (marked_row-accessed m e t back.0 ∙ ap (λ (g : ℕ). mark_step g t (marked_row m t) e) width ∙ set) by.own by.unwritten
