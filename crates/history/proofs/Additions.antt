-- Words to which threads only ever add 1, each time by a load-exclusive and a store-exclusive: after accesses that Arm allows each
-- word holds how often it was written.
use Rattle.std.proofs.Common.{◌≡◌, ◌≢◌, ◌⊎◌, ℕ, ◌+◌, ◌%◌, ◌^◌, ◌<◌, ◌≤◌, ◌==◌, Bool, true, false, if◌then◌else◌, List, [], ◌∷◌, ◌++◌, None, length, refl, sym, ap, ◌∙◌, subst, arith, append_assoc, eq-eqb, inl, inr}
use Rattle.std.proofs.lemmas.Bool.{cases_Bool, cases_eq, ne_eqb}
use Rattle.std.proofs.lemmas.List.{append-nil, length-replicate}
use Rattle.std.proofs.Math.Nat.{mod-eq_of_lt}
use Rattle.llsc_base.specs.Memory.{size_bytes, stored, value_at}
use Rattle.llsc_base.specs.declared.access.Place.{Place}
use Rattle.llsc_base.proofs.Cells.{size_bytes-pos}
use Rattle.llsc_base.proofs.Stores.{value_at-stored, value_at-stored_apart}
use Rattle.history.specs.ArmLegal.{IsArmLegal, MayAccess}
use Rattle.history.specs.Entry.{is_access, thread_of}
use Rattle.history.specs.Monitor.{Monitor, accessed, at_rest_by, monitor_after}
use Rattle.history.specs.Parts.{accesses_of, entries_of}
use Rattle.history.specs.declared.entry.Cause.{Cause}
use Rattle.history.specs.declared.entry.Entry.{Entry}
use Rattle.history.specs.declared.entry.Entry.TheVariants.{Read, Write, Fail, Clear, Watch, Miss, Begin, End, Start}
use Rattle.history.proofs.Appends.{IsArmLegal-back, IsArmLegal-front, entries_of-append, monitor_after-push}
use Rattle.history.proofs.Ends.{by_ends}
use Rattle.history.proofs.Held.{holds_last_read, own_entry, store_finds}
use Rattle.history.proofs.Marks.{IsAsLarge-monitor_after}
use Rattle.history.proofs.WritesByThread.{write_of, writes_of, writes_of-append}

-- ---- words, and additions to them

-- so many words, apart from each other
pub record Words : Type 0 where
  pub word : ℕ → Place
  pub count : ℕ
  pub apart : (i j : ℕ) → i < count → j < count → i ≢ j
      → ((word i).addr + size_bytes (word i).size ≤ (word j).addr) ⊎ ((word j).addr + size_bytes (word j).size ≤ (word i).addr)

-- the sum that a place takes
abbrev pub one_more : Place → ℕ → ℕ
one_more place value = (value + 1) % 256 ^ size_bytes place.size

-- Accesses are those of a thread that adds 1 to each of these words in order, each time by a load-exclusive and behind it a
-- store-exclusive of one more, which succeeds. Others may fail in between, of any word.
pub data AreAdditions (t : ℕ) (word : ℕ → Place) : (named : List ℕ) → List Entry → Type 0 where
  no_turn : AreAdditions t word [] []
  has_stored : (index value : ℕ) (named : List ℕ) (entries : List Entry) → AreAdditions t word named entries
      → AreAdditions t word (index ∷ named) (Read t (word index) value true ∷ Write t (word index) (one_more (word index) value) true ∷ entries)
  has_failed : (index value : ℕ) (cause : Cause) (named : List ℕ) (entries : List Entry) → AreAdditions t word named entries
      → AreAdditions t word named (Read t (word index) value true ∷ Fail t (word index) (one_more (word index) value) cause ∷ entries)

-- each of these numbers is below a bound
abbrev pub AreBelow : ℕ → List ℕ → Type 0
AreBelow count [] = Unit {0}
AreBelow count (index ∷ more) = (index < count) × AreBelow count more

-- the accesses among a thread's entries are its entries among the accesses
pub own_first : (t : ℕ) (history : List Entry) → accesses_of (entries_of t history) ≡ entries_of t (accesses_of history)
own_first t [] = refl
own_first t (entry ∷ history) = elim (cases_Bool (thread_of entry == t)) [
  | inl own ↦ elim (cases_Bool (is_access entry)) [
    | inl access ↦ rw (own, access, own) (ap (λ rest. entry ∷ rest) (own_first t history))
    | inr no_access ↦ rw (own, no_access) (own_first t history)
  ]
  | inr other ↦ elim (cases_Bool (is_access entry)) [
    | inl access ↦ rw (other, access, other) (own_first t history)
    | inr no_access ↦ rw (other, no_access) (own_first t history)
  ]
]

-- ---- counts

-- how often a number stands in a list
abbrev pub times : ℕ → List ℕ → ℕ
times index [] = 0
times index (named ∷ more) = (if named == index then 1 else 0) + times index more

-- a place begins where another does
abbrev pub is_at : Place → Place → Bool
is_at word place = place.addr == word.addr

other_address : (words : Words) (i j : ℕ) → i < words.count → j < words.count → i ≢ j → (words.word i).addr ≢ (words.word j).addr
other_address words i j known other_known other same =
    let some = size_bytes-pos (words.word i).size in
    let others = size_bytes-pos (words.word j).size in
    elim (words.apart i j known other_known other) [
      | inl after ↦ omega (arith, after, some, same)
      | inr before ↦ omega (arith, before, others, same)
    ]

same_word : (words : Words) (i j : ℕ) → i < words.count → j < words.count → is_at (words.word j) (words.word i) ≡ (i == j)
same_word words i j known other_known = elim (cases_eq i j) [
  | inl same ↦ eq-eqb (words.word i).addr (words.word j).addr (ap (λ (k : ℕ). (words.word k).addr) same) ∙ sym (eq-eqb i j same)
  | inr other ↦ ne_eqb (words.word i).addr (words.word j).addr (other_address words i j known other_known other) ∙ sym (ne_eqb i j other)
]

pub additions-times : (words : Words) (t index : ℕ) (named : List ℕ) (entries : List Entry) → index < words.count → AreBelow words.count named
    → AreAdditions t words.word named entries → writes_of (is_at (words.word index)) entries ≡ times index named
additions-times words t index _ _ known below no_turn = refl
additions-times words t index _ _ known below (has_stored at value named entries turns) =
    let rest = additions-times words t index named entries known below.1 turns in
    let one : write_of (is_at (words.word index)) (Write t (words.word at) (one_more (words.word at) value) true) ≡ (if at == index then 1 else 0) =
    ap (λ b. if b then 1 else 0) (same_word words at index below.0 known) in
    omega (arith, rest, one)
additions-times words t index _ _ known below (has_failed at value cause named entries turns) =
    let rest = additions-times words t index named entries known below turns in omega (arith, rest)

-- ---- before a write

-- the last access of a thread before its write is its load-exclusive of the same word, of which the write stores one more
pub record IsOneMore (words : Words) (t : ℕ) (place : Place) (value : ℕ) (ex : Bool) (front : List Entry) : Type 0 where
  pub index : ℕ
  pub known : index < words.count
  pub held : ℕ
  pub earlier : List Entry
  pub at : place ≡ words.word index
  pub is_ex : ex ≡ true
  pub more : value ≡ one_more (words.word index) held
  pub are : front ≡ earlier ++ Read t (words.word index) held true ∷ []

same_write : (t u : ℕ) (place other : Place) (value v : ℕ) (ex x : Bool) → Write t place value ex ≡ Write u other v x → (place ≡ other) × ((value ≡ v) × (ex ≡ x))
same_write t u place other value v ex x same = (cc, (cc, cc))

one_deeper : (words : Words) (t : ℕ) (place : Place) (value : ℕ) (ex : Bool) (a b : Entry) (front : List Entry) → IsOneMore words t place value ex front
    → IsOneMore words t place value ex (a ∷ b ∷ front)
one_deeper words t place value ex a b front is = record {
  index = is.index;
  known = is.known;
  held = is.held;
  earlier = a ∷ b ∷ is.earlier;
  at = is.at;
  is_ex = is.is_ex;
  more = is.more;
  are = ap (λ l. a ∷ b ∷ l) is.are;
}

by_write : (words : Words) (t : ℕ) (named : List ℕ) (entries : List Entry) → AreAdditions t words.word named entries → AreBelow words.count named
    → (front back : List Entry) (u : ℕ) (place : Place) (value : ℕ) (ex : Bool) → entries ≡ front ++ (Write u place value ex ∷ back)
    → IsOneMore words t place value ex front
by_write words t _ _ no_turn below [] back u place value ex same = absurd (let f : ⊥ = cc in f)
by_write words t _ _ no_turn below (a ∷ front) back u place value ex same = absurd (let f : ⊥ = cc in f)
by_write words t _ _ (has_stored at held named entries turns) below [] back u place value ex same = absurd (let f : ⊥ = cc in f)
by_write words t _ _ (has_stored at held named entries turns) below (a ∷ []) back u place value ex same =
    let first : Read t (words.word at) held true ≡ a = cc in
    let second : Write u place value ex ≡ Write t (words.word at) (one_more (words.word at) held) true = cc in
    let parts = same_write u t place (words.word at) value (one_more (words.word at) held) ex true second in
    record {
      index = at;
      known = below.0;
      held = held;
      earlier = [];
      at = parts.0;
      is_ex = parts.1.1;
      more = parts.1.0;
      are = ap (λ e. e ∷ []) (sym first);
    }
by_write words t _ _ (has_stored at held named entries turns) below (a ∷ b ∷ front) back u place value ex same =
    let rest : entries ≡ front ++ (Write u place value ex ∷ back) = cc in
    one_deeper words t place value ex a b front (by_write words t named entries turns below.1 front back u place value ex rest)
by_write words t _ _ (has_failed at held cause named entries turns) below [] back u place value ex same = absurd (let f : ⊥ = cc in f)
by_write words t _ _ (has_failed at held cause named entries turns) below (a ∷ []) back u place value ex same = absurd (let f : ⊥ = cc in f)
by_write words t _ _ (has_failed at held cause named entries turns) below (a ∷ b ∷ front) back u place value ex same =
    let rest : entries ≡ front ++ (Write u place value ex ∷ back) = cc in
    one_deeper words t place value ex a b front (by_write words t named entries turns below front back u place value ex rest)

-- ---- over a history

-- Accesses that Arm allows, in which each thread adds to words that are 0 at first, too few times to wrap.
pub record AreCounted (words : Words) (granule : ℕ) (bytes : List ℕ) (threads : ℕ) (named : ℕ → List ℕ) (accesses : List Entry) : Type 0 where
  pub legal : IsArmLegal (at_rest_by granule bytes threads) accesses
  pub each : (t : ℕ) → t < threads → AreAdditions t words.word (named t) (entries_of t accesses)
  pub below : (t : ℕ) → AreBelow words.count (named t)
  pub room : (index : ℕ) → index < words.count → (words.word index).addr + size_bytes (words.word index).size ≤ length bytes
  pub empty : (index : ℕ) → index < words.count → value_at bytes (words.word index) ≡ 0
  pub few : (index : ℕ) → index < words.count → writes_of (is_at (words.word index)) accesses < 256 ^ size_bytes (words.word index).size

abbrev HoldsAfter : (words : Words) (granule : ℕ) (bytes : List ℕ) (threads : ℕ) → List Entry → Type 0
HoldsAfter words granule bytes threads front = (index : ℕ) → index < words.count
    → value_at (monitor_after (at_rest_by granule bytes threads) front).memory (words.word index) ≡ writes_of (is_at (words.word index)) front

-- a write to one word, as each word sees it
write_seen : (words : Words) (memory : List ℕ) (at index value count : ℕ) → at < words.count → index < words.count
    → (words.word at).addr + size_bytes (words.word at).size ≤ length memory → (words.word index).addr + size_bytes (words.word index).size ≤ length memory
    → value < 256 ^ size_bytes (words.word at).size → value ≡ count + 1
    → (index ≡ at → value_at memory (words.word index) ≡ count) → (before : ℕ) → value_at memory (words.word index) ≡ before
    → value_at (stored memory (words.word at) value) (words.word index) ≡ before + write_of (is_at (words.word index)) (Write 0 (words.word at) value true)
write_seen words memory at index value count known other_known inside other_inside fits more held before is = elim (cases_eq at index) [
  | inl same ↦
      let there : value_at (stored memory (words.word at) value) (words.word index) ≡ value =
      subst (λ (k : ℕ). value_at (stored memory (words.word at) value) (words.word k) ≡ value) same (value_at-stored memory (words.word at) value inside fits) in
      let have = held (sym same) in
      rw (same_word words at index known other_known, eq-eqb at index same) (omega (arith, there, more, have, is))
  | inr other ↦
      let kept : value_at (stored memory (words.word at) value) (words.word index) ≡ value_at memory (words.word index) =
      value_at-stored_apart memory (words.word at) (words.word index) value inside other_inside (words.apart at index known other_known other) in
      rw (same_word words at index known other_known, ne_eqb at index other) (omega (arith, kept, is))
]

-- one write more
one_write : (words : Words) (granule : ℕ) (bytes : List ℕ) (threads : ℕ) (named : ℕ → List ℕ) (accesses : List Entry)
    → AreCounted words granule bytes threads named accesses
    → (front back : List Entry) (t : ℕ) (place : Place) (value : ℕ) (ex : Bool) → accesses ≡ front ++ (Write t place value ex ∷ back)
    → HoldsAfter words granule bytes threads front → (index : ℕ) → index < words.count
    → value_at (stored (monitor_after (at_rest_by granule bytes threads) front).memory place value) (words.word index)
    ≡ writes_of (is_at (words.word index)) front + write_of (is_at (words.word index)) (Write t place value ex)
one_write words granule bytes threads named accesses counted front back t place value ex are holds index known =
    let start = at_rest_by granule bytes threads in
    let m = monitor_after start front in
    let entry = Write t place value ex in
    let cut : IsArmLegal start (front ++ (entry ∷ back)) = subst (IsArmLegal start) are counted.legal in
    let may : MayAccess m entry = (IsArmLegal-back start front (entry ∷ back) cut).0 in
    let large = IsAsLarge-monitor_after start front (IsArmLegal-front start front (entry ∷ back) cut) in
    let long : length m.memory ≡ length bytes = large.bytes in
    let many : length m.marks ≡ threads = large.threads ∙ length-replicate threads None in
    let member : t < threads = subst (λ (n : ℕ). t < n) many may.0.known in
    let own : entries_of t accesses ≡ entries_of t front ++ (entry ∷ entries_of t back) =
    ap (entries_of t) are ∙ entries_of-append t front (entry ∷ back) ∙ ap (λ l. entries_of t front ++ l) (own_entry t entry back refl) in
    let is = by_write words t (named t) (entries_of t accesses) (counted.each t member) (counted.below t) (entries_of t front) (entries_of t back) t place value ex own in
    let there_word = words.word is.index in
    let exclusive : IsArmLegal start (front ++ (Write t place value true ∷ back)) = subst (λ x. IsArmLegal start (front ++ (Write t place value x ∷ back))) is.is_ex cut in
    let there = holds_last_read start t _ is.held there_word front is.earlier (store_finds granule bytes threads t place value front back exclusive) is.are in
    let count : writes_of (is_at there_word) front ≡ is.held = sym (holds is.index is.known) ∙ there in
    let one : write_of (is_at there_word) entry ≡ 1 =
    ap (λ b. if b then 1 else 0) (eq-eqb place.addr there_word.addr (ap (λ (p : Place). p.addr) is.at)) in
    let all : writes_of (is_at there_word) accesses ≡ writes_of (is_at there_word) front + (write_of (is_at there_word) entry + writes_of (is_at there_word) back) =
    ap (writes_of (is_at there_word)) are ∙ writes_of-append (is_at there_word) front (entry ∷ back) in
    let few = counted.few is.index is.known in
    let below : is.held + 1 < 256 ^ size_bytes there_word.size = omega (arith, count, one, all, few) in
    let more : value ≡ writes_of (is_at there_word) front + 1 = is.more ∙ mod-eq_of_lt below ∙ ap (λ (n : ℕ). n + 1) (sym count) in
    let fits : value < 256 ^ size_bytes there_word.size = omega (arith, more, count, below) in
    let seen = write_seen words m.memory is.index index value (writes_of (is_at there_word) front) is.known known
    (subst (λ (n : ℕ). there_word.addr + size_bytes there_word.size ≤ n) (sym long) (counted.room is.index is.known))
    (subst (λ (n : ℕ). (words.word index).addr + size_bytes (words.word index).size ≤ n) (sym long) (counted.room index known)) fits more
    (λ same. ap (λ (i : ℕ). value_at m.memory (words.word i)) same ∙ holds is.index is.known) (writes_of (is_at (words.word index)) front) (holds index known) in
    subst (λ (p : Place). value_at (stored m.memory p value) (words.word index)
    ≡ writes_of (is_at (words.word index)) front + write_of (is_at (words.word index)) (Write t p value ex)) (sym is.at) seen

-- one entry more
one_entry : (words : Words) (granule : ℕ) (bytes : List ℕ) (threads : ℕ) (named : ℕ → List ℕ) (accesses : List Entry)
    → AreCounted words granule bytes threads named accesses
    → (front back : List Entry) (entry : Entry) → accesses ≡ front ++ (entry ∷ back)
    → HoldsAfter words granule bytes threads front → (index : ℕ) → index < words.count
    → value_at (accessed (monitor_after (at_rest_by granule bytes threads) front) entry).memory (words.word index)
    ≡ writes_of (is_at (words.word index)) front + write_of (is_at (words.word index)) entry
one_entry words granule bytes threads named accesses counted front back (Write t p v ex) are holds index known =
    one_write words granule bytes threads named accesses counted front back t p v ex are holds index known
one_entry words granule bytes threads named accesses counted front back (Read t p v true) are holds index known = let h = holds index known in omega (arith, h)
one_entry words granule bytes threads named accesses counted front back (Read t p v false) are holds index known = let h = holds index known in omega (arith, h)
one_entry words granule bytes threads named accesses counted front back (Fail t p v c) are holds index known = let h = holds index known in omega (arith, h)
one_entry words granule bytes threads named accesses counted front back (Clear t) are holds index known = let h = holds index known in omega (arith, h)
one_entry words granule bytes threads named accesses counted front back (Watch t p) are holds index known = let h = holds index known in omega (arith, h)
one_entry words granule bytes threads named accesses counted front back (Miss t p) are holds index known = let h = holds index known in omega (arith, h)
one_entry words granule bytes threads named accesses counted front back (Begin t p) are holds index known = let h = holds index known in omega (arith, h)
one_entry words granule bytes threads named accesses counted front back (End t p) are holds index known = let h = holds index known in omega (arith, h)
one_entry words granule bytes threads named accesses counted front back (Start t child entry arg) are holds index known = let h = holds index known in omega (arith, h)

-- each word holds how often it was written
pub holds_writes : (words : Words) (granule : ℕ) (bytes : List ℕ) (threads : ℕ) (named : ℕ → List ℕ) (accesses : List Entry)
    → AreCounted words granule bytes threads named accesses → HoldsAfter words granule bytes threads accesses
holds_writes words granule bytes threads named accesses counted =
    by_ends (λ front. (back : List Entry) → accesses ≡ front ++ back → HoldsAfter words granule bytes threads front)
    (λ back are index known. counted.empty index known)
    (λ front entry before back are index known.
    let same : accesses ≡ front ++ (entry ∷ back) = are ∙ append_assoc front (entry ∷ []) back in
    ap (λ (n : Monitor). value_at n.memory (words.word index)) (monitor_after-push (at_rest_by granule bytes threads) front entry)
    ∙ one_entry words granule bytes threads named accesses counted front back entry same (before (entry ∷ back) same) index known
    ∙ sym (writes_of-append (is_at (words.word index)) front (entry ∷ []) ∙ omega arith))
    accesses [] (sym (append-nil accesses))
