-- The mark of one thread, step by step, and how things stand of it.
use Rattle.std.proofs.Common.{◌≡◌, ◌≢◌, ℕ, zero, suc, ◌<◌, ◌&&◌, Bool, true, false, if◌then◌else◌, List, [], ◌∷◌, ◌++◌, Option, Some, None, length, map, set, get_or, nat_eq, replicate, refl, sym, ap, ◌∙◌, inl, inr, arith, get_or-set_same, get_or-set_other, length-set}
use Rattle.std.proofs.Math.ListN.{get_or-map}
use Rattle.std.proofs.lemmas.List.{length-map}
use Rattle.std.proofs.lemmas.Bool.{cases_eq, eq-eqb, ne_eqb}
use Rattle.llsc_base.specs.Sizes.{Numbers}
use Rattle.llsc_base.specs.Memory.{row_of}
use Rattle.llsc_base.proofs.Bytes.{length-stored}
use Rattle.history.specs.Monitor.{Monitor, IsAsLarge, accessed, at_rest_by, marked_row, monitor_after, unless_on}
use Rattle.history.specs.ArmLegal.{IsArmLegal, MayAccess}
use Rattle.history.specs.Standing.{Standing, joined, mark_after, standing_after, standing_of, updated}
use Rattle.history.specs.declared.entry.Entry.{Entry}
use Rattle.history.specs.declared.entry.Entry.TheVariants.{Read, Write, Fail, Clear, Watch, Miss, Begin, End, Start}
use Rattle.history.proofs.Ends.{by_ends}
use Rattle.history.proofs.Appends.{IsArmLegal-front, IsArmLegal-last, monitor_after-push, standing_after-push}

-- ---- functions with one value changed

pub updated-same : {A : Type 0} (f : ℕ → A) (at : ℕ) (value : A) → updated f at value at ≡ value
updated-same f at value = rw (eq-eqb at at refl) refl

pub updated-other : {A : Type 0} (f : ℕ → A) (at : ℕ) (value : A) (k : ℕ) → k ≢ at → updated f at value k ≡ f k
updated-other f at value k ne = rw (ne_eqb at k (λ e. ne (sym e))) refl

-- ---- one thread's mark

-- the mark of a thread after one more entry
abbrev pub mark_step : (granule t : ℕ) → Option ℕ → Entry → Option ℕ
mark_step granule t mark (Read thread place value true) = if nat_eq thread t then Some (row_of granule place) else mark
mark_step granule t mark (Write thread place value ex) = mark_after mark (nat_eq thread t && ex) (row_of granule place)
mark_step granule t mark (Fail thread place value cause) = if nat_eq thread t then None else mark
mark_step granule t mark (Clear thread) = if nat_eq thread t then None else mark
mark_step granule t mark _ = mark

-- how things stand of it
pub joined-mark : (size : Numbers) (s : Standing) (e : Entry) (t : ℕ) → (joined size s e).mark t ≡ mark_step size.granule t (s.mark t) e
joined-mark size s (Read thread place value true) t = refl
joined-mark size s (Read thread place value false) t = refl
joined-mark size s (Write thread place value ex) t = refl
joined-mark size s (Fail thread place value cause) t = refl
joined-mark size s (Clear thread) t = refl
joined-mark size s (Watch thread place) t = refl
joined-mark size s (Miss thread place) t = refl
joined-mark size s (Begin thread place) t = refl
joined-mark size s (End thread place) t = refl
joined-mark size s (Start thread child entry arg) t = refl

set_at_thread : (marks : List (Option ℕ)) (thread : ℕ) (mark : Option ℕ) (t : ℕ) → thread < length marks
    → get_or (set marks thread mark) t None ≡ (if nat_eq thread t then mark else get_or marks t None)
set_at_thread marks thread mark t h = elim (cases_eq t thread) [
  | inl same ↦ rw (eq-eqb thread t (sym same)) (ap (λ (k : ℕ). get_or (set marks thread mark) k None) same ∙ get_or-set_same marks thread mark None h)
  | inr other ↦ rw (ne_eqb thread t (λ e. other (sym e))) (get_or-set_other marks thread t mark None other)
]

unmarked_at : (marks : List (Option ℕ)) (row t : ℕ) → get_or (map (unless_on row) marks) t None ≡ unless_on row (get_or marks t None)
unmarked_at marks row t = get_or-map (unless_on row) marks t None

written_mark : (marks : List (Option ℕ)) (thread row t : ℕ) (ex : Bool) → thread < length marks
    → get_or (if ex then set (map (unless_on row) marks) thread None else map (unless_on row) marks) t None
    ≡ mark_after (get_or marks t None) (nat_eq thread t && ex) row
written_mark marks thread row t false h = unmarked_at marks row t ∙ elim (nat_eq thread t) as (λ b. unless_on row (get_or marks t None) ≡ mark_after (get_or marks t None) (b && false) row) [
  | true ↦ refl
  | false ↦ refl
]
written_mark marks thread row t true h =
    let long : thread < length (map (unless_on row) marks) = omega (arith, length-map marks (unless_on row)) in
    set_at_thread (map (unless_on row) marks) thread None t long
    ∙ ap (λ (mark : Option ℕ). if nat_eq thread t then None else mark) (unmarked_at marks row t)
    ∙ elim (nat_eq thread t) as (λ b. (if b then None else unless_on row (get_or marks t None)) ≡ mark_after (get_or marks t None) (b && true) row) [
      | true ↦ refl
      | false ↦ refl
    ]

-- what an access does to it
pub marked_row-accessed : (m : Monitor) (e : Entry) (t : ℕ) → MayAccess m e → marked_row (accessed m e) t ≡ mark_step m.granule t (marked_row m t) e
marked_row-accessed m (Read thread place value true) t h = set_at_thread m.marks thread (Some (row_of m.granule place)) t h.0.known
marked_row-accessed m (Read thread place value false) t h = refl
marked_row-accessed m (Write thread place value true) t h = written_mark m.marks thread (row_of m.granule place) t true h.0.known
marked_row-accessed m (Write thread place value false) t h = written_mark m.marks thread (row_of m.granule place) t false h.0.known
marked_row-accessed m (Fail thread place value cause) t h = set_at_thread m.marks thread None t h.known
marked_row-accessed m (Clear thread) t h = set_at_thread m.marks thread None t h
marked_row-accessed m (Watch thread place) t h = refl
marked_row-accessed m (Miss thread place) t h = refl
marked_row-accessed m (Begin thread place) t h = refl
marked_row-accessed m (End thread place) t h = refl
marked_row-accessed m (Start thread child entry arg) t h = refl

-- ---- as many bytes and threads

pub IsAsLarge-accessed : (m : Monitor) (e : Entry) → MayAccess m e → IsAsLarge m (accessed m e)
IsAsLarge-accessed m (Read thread place value true) h = record { bytes = refl; threads = length-set m.marks thread (Some (row_of m.granule place)); granule = refl }
IsAsLarge-accessed m (Read thread place value false) h = record { bytes = refl; threads = refl; granule = refl }
IsAsLarge-accessed m (Write thread place value true) h = record {
  bytes = length-stored m.memory place value h.0.inside;
  threads = length-set (map (unless_on (row_of m.granule place)) m.marks) thread None ∙ length-map m.marks (unless_on (row_of m.granule place));
  granule = refl;
}
IsAsLarge-accessed m (Write thread place value false) h = record {
  bytes = length-stored m.memory place value h.0.inside;
  threads = length-map m.marks (unless_on (row_of m.granule place));
  granule = refl;
}
IsAsLarge-accessed m (Fail thread place value cause) h = record { bytes = refl; threads = length-set m.marks thread None; granule = refl }
IsAsLarge-accessed m (Clear thread) h = record { bytes = refl; threads = length-set m.marks thread None; granule = refl }
IsAsLarge-accessed m (Watch thread place) h = record { bytes = refl; threads = refl; granule = refl }
IsAsLarge-accessed m (Miss thread place) h = record { bytes = refl; threads = refl; granule = refl }
IsAsLarge-accessed m (Begin thread place) h = record { bytes = refl; threads = refl; granule = refl }
IsAsLarge-accessed m (End thread place) h = record { bytes = refl; threads = refl; granule = refl }
IsAsLarge-accessed m (Start thread child entry arg) h = record { bytes = refl; threads = refl; granule = refl }

pub IsAsLarge-monitor_after : (m : Monitor) (entries : List Entry) → IsArmLegal m entries → IsAsLarge m (monitor_after m entries)
IsAsLarge-monitor_after m [] h = record { bytes = refl; threads = refl; granule = refl }
IsAsLarge-monitor_after m (e ∷ es) h =
    let one = IsAsLarge-accessed m e h.0 in
    let rest = IsAsLarge-monitor_after (accessed m e) es h.1 in
    record { bytes = rest.bytes ∙ one.bytes; threads = rest.threads ∙ one.threads; granule = rest.granule ∙ one.granule }

-- ---- rows as wide

pub granule-monitor_after : (m : Monitor) (entries : List Entry) → (monitor_after m entries).granule ≡ m.granule
granule-monitor_after m [] = refl
granule-monitor_after m (e ∷ es) = granule-monitor_after (accessed m e) es

-- ---- the mark of a thread is how things stand of it

pub get_or-replicate_none : (n t : ℕ) → get_or (replicate {A = Option ℕ} n None) t None ≡ None
get_or-replicate_none zero t = refl
get_or-replicate_none (suc n) zero = refl
get_or-replicate_none (suc n) (suc t) = get_or-replicate_none n t

abbrev MarkIs : Numbers → List ℕ → ℕ → ℕ → List Entry → Type 0
MarkIs size bytes threads t history = IsArmLegal (at_rest_by size.granule bytes threads) history
    → marked_row (monitor_after (at_rest_by size.granule bytes threads) history) t ≡ (standing_after size (standing_of bytes) history).mark t

pub marked_row-standing : (size : Numbers) (bytes : List ℕ) (threads t : ℕ) (history : List Entry) → MarkIs size bytes threads t history
marked_row-standing size bytes threads t history = by_ends (MarkIs size bytes threads t) (λ _. get_or-replicate_none threads t) more history
  where
    more : (entries : List Entry) (e : Entry) → MarkIs size bytes threads t entries → MarkIs size bytes threads t (entries ++ e ∷ [])
    more entries e before legal =
        let m = at_rest_by size.granule bytes threads in
        let s = standing_of bytes in
        let same = before (IsArmLegal-front m entries (e ∷ []) legal) in
        let next = IsArmLegal-last m entries e legal in
        rw (monitor_after-push m entries e, standing_after-push size s entries e)
        (marked_row-accessed (monitor_after m entries) e t next
        ∙ ap (λ (g : ℕ). mark_step g t (marked_row (monitor_after m entries) t) e) (granule-monitor_after m entries)
        ∙ ap (λ (mark : Option ℕ). mark_step size.granule t mark e) same
        ∙ sym (joined-mark size (standing_after size s entries) e t))
