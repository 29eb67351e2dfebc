-- Which bytes of memory a list of accesses leaves as they were, and what it sets where one write alone covers a byte.
use Rattle.std.proofs.Common.{◌≡◌, ◌≢◌, ◌⊎◌, ◌+◌, ◌-◌, ◌==◌, ◌^◌, ◌<◌, ◌≤◌, ℕ, Bool, List, [], ◌∷◌, ◌++◌, length, take, drop, slice_index, refl, sym, ap, subst, ◌∙◌, inl, inr, arith, append_assoc}
use Rattle.std.proofs.lemmas.Bool.{cases_Bool, cases_eq, cases_lt}
use Rattle.std.proofs.lemmas.List.{ext_get_or}
use Rattle.llsc_base.specs.Memory.{bytes_of, number_of, size_bytes, stored, value_at}
use Rattle.llsc_base.specs.declared.access.Place.{Place}
use Rattle.llsc_base.proofs.Bytes.{length-stored}
use Rattle.llsc_base.proofs.Stores.{stored-before, stored-past, stored-within, value_at-same, value_at-stored}
use Rattle.history.specs.ArmLegal.{IsArmLegal, MayAccess}
use Rattle.history.specs.Entry.{thread_of}
use Rattle.history.specs.Monitor.{Monitor, accessed, monitor_after}
use Rattle.history.specs.Parts.{entries_of}
use Rattle.history.specs.declared.entry.Entry.{Entry}
use Rattle.history.specs.declared.entry.Entry.TheVariants.{Read, Write, Fail, Clear, Watch, Miss, Begin, End, Start}
use Rattle.history.proofs.Appends.{IsArmLegal-back, IsArmLegal-front, entries_of-append, monitor_after-append}
use Rattle.history.proofs.Held.{own_entry}
use Rattle.history.proofs.Marks.{IsAsLarge-monitor_after}

-- ---- bytes that no write covers

-- a byte lies outside of a place
abbrev pub Misses : ℕ → Place → Type 0
Misses k place = (k < place.addr) ⊎ (place.addr + size_bytes place.size ≤ k)

-- an entry writes no byte at this index
abbrev pub Leaves : ℕ → Entry → Type 0
Leaves k (Write thread place value ex) = Misses k place
Leaves k _ = Unit {0}

-- nor does any of a list
abbrev pub AllLeave : ℕ → List Entry → Type 0
AllLeave k [] = Unit {0}
AllLeave k (entry ∷ entries) = Leaves k entry × AllLeave k entries

leaves : (m : Monitor) (entry : Entry) (k : ℕ) → MayAccess m entry → Leaves k entry → slice_index (accessed m entry).memory k ≡ slice_index m.memory k
leaves m (Write thread place value ex) k may (inl low) = stored-before m.memory place value k may.0.inside low
leaves m (Write thread place value ex) k may (inr past) = stored-past m.memory place value k may.0.inside past
leaves m (Read thread place value ex) k may leave = refl
leaves m (Fail thread place value cause) k may leave = refl
leaves m (Clear thread) k may leave = refl
leaves m (Watch thread place) k may leave = refl
leaves m (Miss thread place) k may leave = refl
leaves m (Begin thread place) k may leave = refl
leaves m (End thread place) k may leave = refl
leaves m (Start thread child entry arg) k may leave = refl

all_leave : (m : Monitor) (entries : List Entry) (k : ℕ) → IsArmLegal m entries → AllLeave k entries
    → slice_index (monitor_after m entries).memory k ≡ slice_index m.memory k
all_leave m [] k legal leave = refl
all_leave m (entry ∷ entries) k legal leave = all_leave (accessed m entry) entries k legal.1 leave.1 ∙ leaves m entry k legal.0 leave.0

leave-append : (k : ℕ) (front back : List Entry) → AllLeave k (front ++ back) → AllLeave k front × AllLeave k back
leave-append k [] back leave = (tt, leave)
leave-append k (entry ∷ front) back leave = let rest = leave-append k front back leave.1 in ((leave.0, rest.0), rest.1)

-- what a thread's entries do in a list, they do in its parts
pub leave-parts : (k t : ℕ) (front back : List Entry) → AllLeave k (entries_of t (front ++ back)) → AllLeave k (entries_of t front) × AllLeave k (entries_of t back)
leave-parts k t front back leave = leave-append k (entries_of t front) (entries_of t back) (subst (AllLeave k) (entries_of-append t front back) leave)

-- where each thread's entries leave a byte, all entries do
leave-threads : (k : ℕ) (entries : List Entry) → ((t : ℕ) → AllLeave k (entries_of t entries)) → AllLeave k entries
leave-threads k [] each = tt
leave-threads k (entry ∷ entries) each =
    let own : AllLeave k (entry ∷ entries_of (thread_of entry) entries) = subst (AllLeave k) (own_entry (thread_of entry) entry entries refl) (each (thread_of entry)) in
    (own.0, leave-threads k entries (λ t. (leave-parts k t (entry ∷ []) entries (each t)).1))

-- ---- a list at the first entry of a thread

record IsCut (t : ℕ) (entry : Entry) (rest entries : List Entry) : Type 0 where
  front : List Entry
  back : List Entry
  are : entries ≡ front ++ (entry ∷ back)
  before : entries_of t front ≡ []
  behind : entries_of t back ≡ rest

cut : (t : ℕ) (entry : Entry) (rest entries : List Entry) → entries_of t entries ≡ entry ∷ rest → IsCut t entry rest entries
cut t entry rest [] own = absurd (let f : ⊥ = cc in f)
cut t entry rest (first ∷ entries) own = elim (cases_Bool (thread_of first == t)) [
  | inl is_own ↦
      let here : first ∷ entries_of t entries ≡ entry ∷ rest = rw is_own at own in
      let same : first ≡ entry = cc in
      record { front = []; back = entries; are = ap (λ (e : Entry). e ∷ entries) same; before = refl; behind = cc }
  | inr other ↦
      let later = cut t entry rest entries (rw other at own) in
      record {
        front = first ∷ later.front;
        back = later.back;
        are = ap (λ (es : List Entry). first ∷ es) later.are;
        before = rw other later.before;
        behind = later.behind;
      }
]

-- ---- a thread that writes once

-- of a thread the first access is a write, and its others write nothing at an index
pub record WritesOnce (t : ℕ) (place : Place) (value : ℕ) (entries : List Entry) : Type 0 where
  pub ex : Bool
  pub rest : List Entry
  pub own : entries_of t entries ≡ Write t place value ex ∷ rest
  pub leave : (k : ℕ) → AllLeave k rest

-- the write's place lies in memory, and its value fits
pub sound_by : (m : Monitor) (entries : List Entry) (t : ℕ) (place : Place) (value : ℕ) → IsArmLegal m entries → WritesOnce t place value entries
    → (place.addr + size_bytes place.size ≤ length m.memory) × (value < 256 ^ size_bytes place.size)
sound_by m entries t place value legal writes =
    let write = Write t place value writes.ex in
    let at = cut t write writes.rest entries writes.own in
    let parted : IsArmLegal m (at.front ++ (write ∷ at.back)) = subst (IsArmLegal m) at.are legal in
    let may : MayAccess (monitor_after m at.front) write = (IsArmLegal-back m at.front (write ∷ at.back) parted).0 in
    let large = (IsAsLarge-monitor_after m at.front (IsArmLegal-front m at.front (write ∷ at.back) parted)).bytes in
    let inside = may.0.inside in
    (omega (arith, large, inside), may.0.fits)

-- the others leave the bytes of the write's place
abbrev pub OthersLeave : ℕ → Place → List Entry → Type 0
OthersLeave t place entries = (u k : ℕ) → u ≢ t → place.addr ≤ k → k < place.addr + size_bytes place.size → AllLeave k (entries_of u entries)

-- then memory has the value's bytes there
set_by : (m : Monitor) (entries : List Entry) (t : ℕ) (place : Place) (value k : ℕ) → IsArmLegal m entries → WritesOnce t place value entries
    → OthersLeave t place entries → place.addr ≤ k → k < place.addr + size_bytes place.size
    → slice_index (monitor_after m entries).memory k ≡ slice_index (bytes_of (size_bytes place.size) value) (k - place.addr)
set_by m entries t place value k legal writes others from below =
    let write = Write t place value writes.ex in
    let at = cut t write writes.rest entries writes.own in
    let parted : IsArmLegal m (at.front ++ (write ∷ at.back)) = subst (IsArmLegal m) at.are legal in
    let behind = IsArmLegal-back m at.front (write ∷ at.back) parted in
    let still : AllLeave k at.back = leave-threads k at.back (λ u. elim (cases_eq u t) [
      | inl same ↦ subst (λ (n : ℕ). AllLeave k (entries_of n at.back)) (sym same) (subst (AllLeave k) (sym at.behind) (writes.leave k))
      | inr other ↦
          let all : AllLeave k (entries_of u (at.front ++ (write ∷ at.back))) = subst (λ (es : List Entry). AllLeave k (entries_of u es)) at.are (others u k other from below) in
          (leave-parts k u (write ∷ []) at.back (leave-parts k u at.front (write ∷ at.back) all).1).1
    ]) in
    ap (λ (es : List Entry). slice_index (monitor_after m es).memory k) at.are
    ∙ ap (λ (x : Monitor). slice_index x.memory k) (monitor_after-append m at.front (write ∷ at.back))
    ∙ all_leave (accessed (monitor_after m at.front) write) at.back k behind.1 still
    ∙ stored-within (monitor_after m at.front).memory place value k behind.0.0.inside from below

-- and its value
value_by : (m : Monitor) (entries : List Entry) (t : ℕ) (place : Place) (value : ℕ) → IsArmLegal m entries → WritesOnce t place value entries
    → OthersLeave t place entries → value_at (monitor_after m entries).memory place ≡ value
value_by m entries t place value legal writes others =
    let sound = sound_by m entries t place value legal writes in
    let inside = sound.0 in
    let large = (IsAsLarge-monitor_after m entries legal).bytes in
    let kept = length-stored m.memory place value inside in
    value_at-same (monitor_after m entries).memory (stored m.memory place value) place (omega (arith, large, inside)) (omega (arith, kept, inside))
    (λ k from below. set_by m entries t place value k legal writes others from below ∙ sym (stored-within m.memory place value k inside from below))
    ∙ value_at-stored m.memory place value inside sound.1

-- ---- a thread that writes once, and then reads the same place

-- of a thread the accesses are a write, and a read of the same bytes
pub record WritesAndReads (t : ℕ) (place : Place) (value got : ℕ) (entries : List Entry) : Type 0 where
  pub ex : Bool
  pub other_ex : Bool
  pub other : Place
  pub addr : other.addr ≡ place.addr
  pub size : size_bytes other.size ≡ size_bytes place.size
  pub own : entries_of t entries ≡ Write t place value ex ∷ Read t other got other_ex ∷ []

pub once_of : (t : ℕ) (place : Place) (value got : ℕ) (entries : List Entry) → WritesAndReads t place value got entries → WritesOnce t place value entries
once_of t place value got entries both = record {
  ex = both.ex;
  rest = Read t both.other got both.other_ex ∷ [];
  own = both.own;
  leave = λ k. (tt, tt);
}

-- it reads what it wrote
pub reads_back : (m : Monitor) (entries : List Entry) (t : ℕ) (place : Place) (value got : ℕ) → IsArmLegal m entries
    → WritesAndReads t place value got entries → OthersLeave t place entries → got ≡ value
reads_back m entries t place value got legal both others =
    let write = Write t place value both.ex in
    let read = Read t both.other got both.other_ex in
    let first = cut t write (read ∷ []) entries both.own in
    let second = cut t read [] first.back first.behind in
    let early = first.front ++ (write ∷ second.front) in
    let are : entries ≡ early ++ (read ∷ second.back) =
    first.are
    ∙ ap (λ (es : List Entry). first.front ++ (write ∷ es)) second.are
    ∙ sym (append_assoc first.front (write ∷ second.front) (read ∷ second.back)) in
    let parted : IsArmLegal m (early ++ (read ∷ second.back)) = subst (IsArmLegal m) are legal in
    let may : MayAccess (monitor_after m early) read = (IsArmLegal-back m early (read ∷ second.back) parted).0 in
    let before : WritesOnce t place value early = record {
      ex = both.ex;
      rest = [];
      own =
          entries_of-append t first.front (write ∷ second.front)
          ∙ ap (λ (es : List Entry). es ++ entries_of t (write ∷ second.front)) first.before
          ∙ own_entry t write second.front refl
          ∙ ap (λ (es : List Entry). write ∷ es) second.before;
      leave = λ k. tt;
    } in
    let still : OthersLeave t place early = λ u k other from below.
    (leave-parts k u early (read ∷ second.back) (subst (λ (es : List Entry). AllLeave k (entries_of u es)) are (others u k other from below))).0 in
    may.1
    ∙ ap (λ (n : ℕ). number_of (take n (drop both.other.addr (monitor_after m early).memory))) both.size
    ∙ ap (λ (n : ℕ). number_of (take (size_bytes place.size) (drop n (monitor_after m early).memory))) both.addr
    ∙ value_by m early t place value (IsArmLegal-front m early (read ∷ second.back) parted) before still

-- ---- memory as it is left

-- a byte is one of a place, or outside of it
in_place : (k : ℕ) (place : Place) → ((place.addr ≤ k) × (k < place.addr + size_bytes place.size)) ⊎ Misses k place
in_place k place = elim (cases_lt k place.addr) [
  | inl low ↦ inr (inl low)
  | inr from ↦ elim (cases_lt k (place.addr + size_bytes place.size)) [
    | inl below ↦ inl (from, below)
    | inr past ↦ inr (inr past)
  ]
]

stored-missed : (memory : List ℕ) (place : Place) (value k : ℕ) → place.addr + size_bytes place.size ≤ length memory → Misses k place
    → slice_index (stored memory place value) k ≡ slice_index memory k
stored-missed memory place value k inside (inl low) = stored-before memory place value k inside low
stored-missed memory place value k inside (inr past) = stored-past memory place value k inside past

-- a byte of no write is as at first
kept_by : (m : Monitor) (entries : List Entry) (k : ℕ) → IsArmLegal m entries → ((t : ℕ) → AllLeave k (entries_of t entries))
    → slice_index (monitor_after m entries).memory k ≡ slice_index m.memory k
kept_by m entries k legal each = all_leave m entries k legal (leave-threads k entries each)

-- a thread that writes once leaves the bytes outside of its place
pub leaves_outside : (k t : ℕ) (place : Place) (value : ℕ) (entries : List Entry) → WritesOnce t place value entries → Misses k place
    → AllLeave k (entries_of t entries)
leaves_outside k t place value entries writes outside = subst (AllLeave k) (sym writes.own) (outside, writes.leave k)

-- a thread without entries leaves all
pub none_leave : (k u : ℕ) (entries : List Entry) → entries_of u entries ≡ [] → AllLeave k (entries_of u entries)
none_leave k u entries none = subst (AllLeave k) (sym none) tt

-- what is so of two threads is so of each, where no other has entries
of_two : (k t u : ℕ) (entries : List Entry) → AllLeave k (entries_of t entries) → AllLeave k (entries_of u entries)
    → ((w : ℕ) → w ≢ t → w ≢ u → entries_of w entries ≡ []) → (w : ℕ) → AllLeave k (entries_of w entries)
of_two k t u entries one two none w = elim (cases_eq w t) [
  | inl same ↦ subst (λ (n : ℕ). AllLeave k (entries_of n entries)) (sym same) one
  | inr not_t ↦ elim (cases_eq w u) [
    | inl same ↦ subst (λ (n : ℕ). AllLeave k (entries_of n entries)) (sym same) two
    | inr not_u ↦ none_leave k w entries (none w not_t not_u)
  ]
]

-- One thread writes, once.
pub one_write : (m : Monitor) (entries : List Entry) (t : ℕ) (place : Place) (value : ℕ) → IsArmLegal m entries → WritesOnce t place value entries
    → ((u : ℕ) → u ≢ t → entries_of u entries ≡ []) → (monitor_after m entries).memory ≡ stored m.memory place value
one_write m entries t place value legal writes none =
    let inside = (sound_by m entries t place value legal writes).0 in
    let large = (IsAsLarge-monitor_after m entries legal).bytes in
    ext_get_or 0 (monitor_after m entries).memory (stored m.memory place value) (large ∙ sym (length-stored m.memory place value inside))
    (λ k known. elim (in_place k place) [
      | inl here ↦
          set_by m entries t place value k legal writes (λ u j other from below. none_leave j u entries (none u other)) here.0 here.1
          ∙ sym (stored-within m.memory place value k inside here.0 here.1)
      | inr outside ↦
          let own = leaves_outside k t place value entries writes outside in
          kept_by m entries k legal (of_two k t t entries own own (λ u other same. none u other))
          ∙ sym (stored-missed m.memory place value k inside outside)
    ])

-- two places share no byte
abbrev pub ShareNone : Place → Place → Type 0
ShareNone one other = (one.addr + size_bytes one.size ≤ other.addr) ⊎ (other.addr + size_bytes other.size ≤ one.addr)

swapped : (one other : Place) → ShareNone one other → ShareNone other one
swapped one other (inl after) = inr after
swapped one other (inr before) = inl before

-- a byte of the one is outside of the other
pub missed : (k : ℕ) (one other : Place) → ShareNone one other → one.addr ≤ k → k < one.addr + size_bytes one.size → Misses k other
missed k one other (inl after) from below = inl (omega (arith, after, below))
missed k one other (inr before) from below = inr (omega (arith, before, from))

-- so a thread that writes once elsewhere leaves the place, if there is no third
pub others_leave : (t u : ℕ) (place other : Place) (second : ℕ) (entries : List Entry) → WritesOnce u other second entries → ShareNone place other
    → ((w : ℕ) → w ≢ t → w ≢ u → entries_of w entries ≡ []) → OthersLeave t place entries
others_leave t u place other second entries more apart none w k not_t from below = elim (cases_eq w u) [
  | inl same ↦
      subst (λ (n : ℕ). AllLeave k (entries_of n entries)) (sym same)
      (leaves_outside k u other second entries more (missed k place other apart from below))
  | inr not_u ↦ none_leave k w entries (none w not_t not_u)
]

-- Two threads write, each once, and share no byte.
pub two_writes : (m : Monitor) (entries : List Entry) (t u : ℕ) (place other : Place) (value second : ℕ) → IsArmLegal m entries
    → WritesOnce t place value entries → WritesOnce u other second entries → ShareNone place other
    → ((w : ℕ) → w ≢ t → w ≢ u → entries_of w entries ≡ [])
    → (monitor_after m entries).memory ≡ stored (stored m.memory place value) other second
two_writes m entries t u place other value second legal writes more apart none =
    let inside = (sound_by m entries t place value legal writes).0 in
    let once = length-stored m.memory place value inside in
    let within = (sound_by m entries u other second legal more).0 in
    let still : other.addr + size_bytes other.size ≤ length (stored m.memory place value) = omega (arith, once, within) in
    let large = (IsAsLarge-monitor_after m entries legal).bytes in
    let twice = length-stored (stored m.memory place value) other second still in
    ext_get_or 0 (monitor_after m entries).memory (stored (stored m.memory place value) other second) (large ∙ sym (twice ∙ once))
    (λ k known. elim (in_place k place) [
      | inl here ↦
          set_by m entries t place value k legal writes (others_leave t u place other second entries more apart none) here.0 here.1
          ∙ sym (stored-within m.memory place value k inside here.0 here.1)
          ∙ sym (stored-missed (stored m.memory place value) other second k still (missed k place other apart here.0 here.1))
      | inr outside ↦ elim (in_place k other) [
        | inl there ↦
            set_by m entries u other second k legal more (others_leave u t other place value entries writes (swapped place other apart) (λ w one two. none w two one)) there.0 there.1
            ∙ sym (stored-within (stored m.memory place value) other second k still there.0 there.1)
        | inr away ↦
            kept_by m entries k legal
            (of_two k t u entries (leaves_outside k t place value entries writes outside) (leaves_outside k u other second entries more away) none)
            ∙ sym (stored-missed m.memory place value k inside outside)
            ∙ sym (stored-missed (stored m.memory place value) other second k still away)
      ]
    ])
