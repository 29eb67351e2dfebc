-- What the load-exclusive that set a mark read is still what memory has there.
use Rattle.std.proofs.Common.{◌≡◌, ◌≢◌, ℕ, ◌==◌, ◌&&◌, ◌||◌, Bool, true, false, List, [], ◌∷◌, ◌++◌, refl, sym, ap, subst, ◌∙◌, arith, append_assoc, eq-eqb, inl, inr}
use Rattle.std.specs.List.{filter, list_any}
use Rattle.std.proofs.lemmas.Bool.{cases_Bool, ne_eqb}
use Rattle.std.proofs.lemmas.List.{same_from_push}
use Rattle.std.proofs.lemmas.List.Folds.{list_any-append}
use Rattle.llsc_base.specs.Memory.{row_of, value_at}
use Rattle.llsc_base.proofs.Cells.{row_of-byte}
use Rattle.llsc_base.proofs.Stores.{value_at-same}
use Rattle.history.specs.Monitor.{Monitor, at_rest_by, monitor_after}
use Rattle.history.specs.ArmLegal.{IsArmLegal, MayAccess}
use Rattle.history.specs.Entry.{thread_of}
use Rattle.history.specs.Marked.{HoldsWhatWasRead, IsUnwrittenSince, is_load_ex}
use Rattle.history.specs.Parts.{entries_of}
use Rattle.llsc_base.specs.declared.access.Place.{Place}
use Rattle.history.specs.declared.entry.Entry.{Entry}
use Rattle.history.specs.declared.entry.Entry.TheVariants.{Read, Write}
use Rattle.history.proofs.Appends.{IsArmLegal-back, IsArmLegal-front, entries_of-append}
use Rattle.history.proofs.Ends.{by_ends}
use Rattle.history.proofs.Kept.{store_keeps}
use Rattle.history.proofs.Marks.{IsAsLarge-monitor_after}

-- a mark that is left keeps what its load-exclusive read
still_held : (start : Monitor) (thread row : ℕ) (accesses : List Entry) → IsArmLegal start accesses
    → (mark : IsUnwrittenSince start accesses thread row)
    → value_at (monitor_after start accesses).memory mark.place ≡ mark.value
still_held start thread row accesses legal mark =
    let read : Entry = Read thread mark.place mark.value true in
    let whole : IsArmLegal start (mark.before ++ (read ∷ mark.later)) = subst (IsArmLegal start) mark.are legal in
    let may : MayAccess (monitor_after start mark.before) read = (IsArmLegal-back start mark.before (read ∷ mark.later) whole).0 in
    let one = (IsAsLarge-monitor_after start mark.before (IsArmLegal-front start mark.before (read ∷ mark.later) whole)).bytes in
    let two = (IsAsLarge-monitor_after start accesses legal).bytes in
    let inside = may.0.inside in
    value_at-same (monitor_after start accesses).memory (monitor_after start mark.before).memory mark.place
    (omega (arith, one, two, inside)) inside
    (λ k from below. mark.kept k (row_of-byte start.granule mark.place k may.0.aligned from below ∙ mark.of_row))
    ∙ sym may.1

-- so a store-exclusive that succeeds finds it
pub store_finds : (granule : ℕ) (bytes : List ℕ) (threads thread : ℕ) (place : Place) (value : ℕ) (front back : List Entry)
    → IsArmLegal (at_rest_by granule bytes threads) (front ++ (Write thread place value true ∷ back))
    → HoldsWhatWasRead (at_rest_by granule bytes threads) front thread (row_of granule place)
store_finds granule bytes threads thread place value front back legal =
    let start = at_rest_by granule bytes threads in
    let mark = store_keeps granule bytes threads thread place value front back legal in
    (mark, still_held start thread (row_of granule place) front (IsArmLegal-front start front (Write thread place value true ∷ back) legal) mark)

-- ---- the load-exclusive that set a mark

-- what nothing in a list is, nothing in a part of it is
any-filter : (f g : Entry → Bool) (entries : List Entry) → list_any f entries ≡ false → list_any f (filter g entries) ≡ false
any-filter f g [] none = refl
any-filter f g (entry ∷ entries) none = elim (cases_Bool (f entry)) [
  | inl met ↦ absurd (let e : true ≡ false = rw met at none in let h : ⊥ = cc in h)
  | inr unmet ↦
      let rest : list_any f entries ≡ false = rw unmet at none in
      elim (cases_Bool (g entry)) [
        | inl kept ↦ rw (kept, unmet) (any-filter f g entries rest)
        | inr dropped ↦ rw dropped (any-filter f g entries rest)
      ]
]

-- the last entry of a kind is one, however the list is parted
last_of_kind : (f : Entry → Bool) (before earlier : List Entry) (one two : Entry) → f two ≡ true
    → (later : List Entry) → list_any f later ≡ false → before ++ (one ∷ later) ≡ earlier ++ two ∷ [] → one ≡ two
last_of_kind f before earlier one two is = by_ends (λ later. list_any f later ≡ false → before ++ (one ∷ later) ≡ earlier ++ two ∷ [] → one ≡ two)
    (λ none same. (same_from_push before earlier one two same).1)
    (λ later last before_it none same.
    let parts : (before ++ one ∷ later) ++ last ∷ [] ≡ earlier ++ two ∷ [] = append_assoc before (one ∷ later) (last ∷ []) ∙ same in
    let at_end : last ≡ two = (same_from_push (before ++ one ∷ later) earlier last two parts).1 in
    let any : list_any f (later ++ last ∷ []) ≡ true = list_any-append f later (last ∷ []) ∙ ap (λ b. list_any f later || b) (ap (λ b. b || false) (ap f at_end ∙ is)) ∙ or_last (list_any f later) in
    absurd (let e : true ≡ false = sym any ∙ none in let h : ⊥ = cc in h))
  where
    or_last : (b : Bool) → (b || true) ≡ true
    or_last true = refl
    or_last false = refl

same_read : (t u : ℕ) (place other : Place) (value v : ℕ) → Read t place value true ≡ Read u other v true → (place ≡ other) × (value ≡ v)
same_read t u place other value v same = (cc, cc)

-- the entries of a thread that begin with one of its own
pub own_entry : (t : ℕ) (entry : Entry) (entries : List Entry) → thread_of entry ≡ t → entries_of t (entry ∷ entries) ≡ entry ∷ entries_of t entries
own_entry t entry entries own = rw (eq-eqb (thread_of entry) t own) refl

-- and with one of another thread
pub other_entry : (t : ℕ) (entry : Entry) (entries : List Entry) → thread_of entry ≢ t → entries_of t (entry ∷ entries) ≡ entries_of t entries
other_entry t entry entries other = rw (ne_eqb (thread_of entry) t other) refl

-- Where the last of a thread's own entries is a load-exclusive, memory holds at its place what it read.
pub holds_last_read : (start : Monitor) (t row held : ℕ) (place : Place) (front earlier : List Entry) → HoldsWhatWasRead start front t row
    → entries_of t front ≡ earlier ++ Read t place held true ∷ []
    → value_at (monitor_after start front).memory place ≡ held
holds_last_read start t row held place front earlier holds are =
    let mark = holds.0 in
    let read = Read t mark.place mark.value true in
    let own : entries_of t mark.before ++ (read ∷ entries_of t mark.later) ≡ earlier ++ Read t place held true ∷ [] =
    ap (λ l. entries_of t mark.before ++ l) (sym (own_entry t read mark.later refl))
    ∙ sym (entries_of-append t mark.before (read ∷ mark.later))
    ∙ sym (ap (entries_of t) mark.are)
    ∙ are in
    let set : is_load_ex t (Read t place held true) ≡ true = ap (λ b. b && true) (eq-eqb t t refl) in
    let parts = same_read t t mark.place place mark.value held
    (last_of_kind (is_load_ex t) (entries_of t mark.before) earlier read (Read t place held true) set
    (entries_of t mark.later) (any-filter (is_load_ex t) (λ entry. thread_of entry == t) mark.later mark.last) own) in
    ap (value_at (monitor_after start front).memory) (sym parts.0) ∙ holds.1 ∙ parts.1
