-- A byte of memory after accesses is made by the writes of its class alone.
use Rattle.std.proofs.Common.{◌≡◌, ℕ, ◌+◌, ◌-◌, ◌≤◌, ◌==◌, true, false, if◌then◌else◌, List, [], ◌∷◌, length, nat_lt, slice_index, refl, sym, ap, ◌∙◌, inl, inr, eq-eqb}
use Rattle.std.specs.List.{filter}
use Rattle.std.proofs.lemmas.Bool.{cases_Bool, cases_lt, le-ltb, lt-ltb}
use Rattle.llsc_base.specs.Sizes.{Numbers}
use Rattle.llsc_base.specs.Memory.{bytes_of, class_of, is_aligned, row_of, size_bytes, stored, value_at}
use Rattle.llsc_base.specs.declared.access.Place.{Place}
use Rattle.llsc_base.proofs.Cells.{row_of-byte}
use Rattle.llsc_base.proofs.Stores.{stored-before, stored-past, stored-within, value_at-same}
use Rattle.history.specs.ArmLegal.{IsArmLegal}
use Rattle.history.specs.Cause.{is_write}
use Rattle.history.specs.Entry.{is_in_class}
use Rattle.history.specs.Marked.{byte_place}
use Rattle.history.specs.Monitor.{Monitor, accessed, monitor_after}
use Rattle.history.specs.declared.entry.Entry.{Entry}
use Rattle.history.specs.declared.entry.Entry.TheVariants.{Read, Write, Fail, Clear, Watch, Miss, Begin, End, Start}
use Rattle.run_merge.proofs.Parts.{filter_yes, filter_no}

-- a byte after a store to a place
abbrev byte_by : ℕ → ℕ → Place → ℕ → ℕ
byte_by k byte place value =
    if nat_lt k place.addr then byte
    else (if nat_lt k (place.addr + size_bytes place.size) then slice_index (bytes_of (size_bytes place.size) value) (k - place.addr) else byte)

-- a byte after writes
abbrev pub byte_after : ℕ → ℕ → List Entry → ℕ
byte_after k byte [] = byte
byte_after k byte (Write thread place value ex ∷ es) = byte_after k (byte_by k byte place value) es
byte_after k byte (_ ∷ es) = byte_after k byte es

stored_byte : (memory : List ℕ) (place : Place) (value k : ℕ) → place.addr + size_bytes place.size ≤ length memory
    → slice_index (stored memory place value) k ≡ byte_by k (slice_index memory k) place value
stored_byte memory place value k inside = elim (cases_lt k place.addr) [
  | inl low ↦ rw (lt-ltb k place.addr low) (stored-before memory place value k inside low)
  | inr from ↦ rw (le-ltb k place.addr from) (elim (cases_lt k (place.addr + size_bytes place.size)) [
    | inl below ↦ rw (lt-ltb k (place.addr + size_bytes place.size) below) (stored-within memory place value k inside from below)
    | inr past ↦ rw (le-ltb k (place.addr + size_bytes place.size) past) (stored-past memory place value k inside past)
  ])
]

-- a byte of a class that a store to another class leaves
other_byte : (size : Numbers) (row : ℕ) (place : Place) (byte value k : ℕ) → is_aligned place ≡ true
    → is_in_class size row place ≡ false → is_in_class size row (byte_place k) ≡ true → byte_by k byte place value ≡ byte
other_byte size row place byte value k aligned far near = elim (cases_lt k place.addr) [
  | inl low ↦ rw (lt-ltb k place.addr low) refl
  | inr from ↦ rw (le-ltb k place.addr from) (elim (cases_lt k (place.addr + size_bytes place.size)) [
    | inl below ↦
        let same : is_in_class size row (byte_place k) ≡ is_in_class size row place =
        ap (λ r. class_of size.classes r == class_of size.classes row) (row_of-byte size.granule place k aligned from below) in
        absurd (let f : false ≡ true = sym far ∙ sym same ∙ near in let g : ⊥ = cc in g)
    | inr past ↦ rw (le-ltb k (place.addr + size_bytes place.size) past) refl
  ])
]

module _ (size : Numbers) (row k : ℕ) (near : is_in_class size row (byte_place k) ≡ true) where
  pub byte_is : (m : Monitor) (es : List Entry) → IsArmLegal m es
      → slice_index (monitor_after m es).memory k ≡ byte_after k (slice_index m.memory k) (filter (is_write size row) es)
  byte_is m [] legal = refl
  byte_is m (Write t p v x ∷ es) legal = elim (cases_Bool (is_write size row (Write t p v x))) [
    | inl here ↦
        byte_is (accessed m (Write t p v x)) es legal.1
        ∙ ap (λ b. byte_after k b (filter (is_write size row) es)) (stored_byte m.memory p v k legal.0.0.inside)
        ∙ ap (byte_after k (slice_index m.memory k)) (sym (filter_yes (is_write size row) (Write t p v x) es here))
    | inr elsewhere ↦
        byte_is (accessed m (Write t p v x)) es legal.1
        ∙ ap (λ b. byte_after k b (filter (is_write size row) es)) (stored_byte m.memory p v k legal.0.0.inside ∙ other_byte size row p (slice_index m.memory k) v k legal.0.0.aligned elsewhere near)
        ∙ ap (byte_after k (slice_index m.memory k)) (sym (filter_no (is_write size row) (Write t p v x) es elsewhere))
  ]
  byte_is m (Read t p v x ∷ es) legal = byte_is (accessed m (Read t p v x)) es legal.1
  byte_is m (Fail t p v c ∷ es) legal = byte_is (accessed m (Fail t p v c)) es legal.1
  byte_is m (Clear t ∷ es) legal = byte_is (accessed m (Clear t)) es legal.1
  byte_is m (Watch t p ∷ es) legal = byte_is m es legal.1
  byte_is m (Miss t p ∷ es) legal = byte_is m es legal.1
  byte_is m (Begin t p ∷ es) legal = byte_is m es legal.1
  byte_is m (End t p ∷ es) legal = byte_is m es legal.1
  byte_is m (Start t child entry arg ∷ es) legal = byte_is m es legal.1

-- the same writes of a class leave the same value at its places
pub value_is : (size : Numbers) (m : Monitor) (one other : List Entry) (place : Place) → IsArmLegal m one → IsArmLegal m other
    → is_aligned place ≡ true → place.addr + size_bytes place.size ≤ length (monitor_after m one).memory
    → place.addr + size_bytes place.size ≤ length (monitor_after m other).memory
    → filter (is_write size (row_of size.granule place)) one ≡ filter (is_write size (row_of size.granule place)) other
    → value_at (monitor_after m one).memory place ≡ value_at (monitor_after m other).memory place
value_is size m one other place legal legal_too aligned inside inside_too same =
    value_at-same (monitor_after m one).memory (monitor_after m other).memory place inside inside_too
    (λ k from below.
    let row = row_of size.granule place in
    let near : is_in_class size row (byte_place k) ≡ true =
    eq-eqb (class_of size.classes (row_of size.granule (byte_place k))) (class_of size.classes row)
    (ap (class_of size.classes) (row_of-byte size.granule place k aligned from below)) in
    byte_is size row k near m one legal ∙ ap (byte_after k (slice_index m.memory k)) same ∙ sym (byte_is size row k near m other legal_too))
