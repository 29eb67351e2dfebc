-- Memory after a store, byte by byte, and what other places then hold.
use Rattle.std.proofs.Common.{◌≡◌, ℕ, zero, suc, ◌+◌, ◌-◌, ◌/◌, ◌^◌, ◌<◌, ◌≤◌, ◌⊎◌, List, ◌++◌, length, take, drop, slice_index, sym, ap, ◌∙◌, arith, length-append, length-take, length-drop, inl, inr, mod-lt}
use Rattle.std.proofs.lemmas.List.{get_or-take, get_or-drop, get_or_append_left, get_or-append_right, length-take-le, ext_get_or}
use Rattle.std.proofs.lemmas.Bool.{cases_lt}
use Rattle.std.proofs.Math.Nat.{mod-eq_of_lt}
use Rattle.llsc_base.specs.Memory.{number_of, bytes_of, size_bytes, stored, value_at}
use Rattle.llsc_base.specs.declared.access.Place.{Place}
use Rattle.llsc_base.proofs.Bytes.{length-bytes_of, number_of-bytes_of, length-stored}

-- every byte of a number is one
pub bytes_of-byte : (n v k : ℕ) → slice_index (bytes_of n v) k < 256
unfolding bytes_of
bytes_of-byte zero v k = omega arith
bytes_of-byte (suc n) v zero = mod-lt v (omega arith)
bytes_of-byte (suc n) v (suc k) = bytes_of-byte n (v / 256) k

front-length : (memory : List ℕ) (place : Place) (value : ℕ) → place.addr + size_bytes place.size ≤ length memory
    → length (take place.addr memory ++ bytes_of (size_bytes place.size) value) ≡ place.addr + size_bytes place.size
front-length memory place value inside =
    omega (arith, length-append (take place.addr memory) (bytes_of (size_bytes place.size) value), length-bytes_of (size_bytes place.size) value, length-take place.addr memory)

-- a byte before the place of a store
pub stored-before : (memory : List ℕ) (place : Place) (value k : ℕ) → place.addr + size_bytes place.size ≤ length memory
    → k < place.addr → slice_index (stored memory place value) k ≡ slice_index memory k
stored-before memory place value k inside low =
    let one : length (take place.addr memory) ≡ place.addr = length-take-le place.addr memory (omega arith) in
    let front = front-length memory place value inside in
    get_or_append_left (take place.addr memory ++ bytes_of (size_bytes place.size) value) (drop (place.addr + size_bytes place.size) memory) 0 k (omega arith)
    ∙ get_or_append_left (take place.addr memory) (bytes_of (size_bytes place.size) value) 0 k (omega arith)
    ∙ get_or-take place.addr memory k 0 low

-- a byte of the place of a store
pub stored-within : (memory : List ℕ) (place : Place) (value k : ℕ) → place.addr + size_bytes place.size ≤ length memory
    → place.addr ≤ k → k < place.addr + size_bytes place.size
    → slice_index (stored memory place value) k ≡ slice_index (bytes_of (size_bytes place.size) value) (k - place.addr)
stored-within memory place value k inside from below =
    let one : length (take place.addr memory) ≡ place.addr = length-take-le place.addr memory (omega arith) in
    let front = front-length memory place value inside in
    get_or_append_left (take place.addr memory ++ bytes_of (size_bytes place.size) value) (drop (place.addr + size_bytes place.size) memory) 0 k (omega arith)
    ∙ get_or-append_right (take place.addr memory) (bytes_of (size_bytes place.size) value) place.addr k 0 one from

-- a byte past the place of a store
pub stored-past : (memory : List ℕ) (place : Place) (value k : ℕ) → place.addr + size_bytes place.size ≤ length memory
    → place.addr + size_bytes place.size ≤ k → slice_index (stored memory place value) k ≡ slice_index memory k
stored-past memory place value k inside past =
    let front = front-length memory place value inside in
    let end : place.addr + size_bytes place.size + (k - (place.addr + size_bytes place.size)) ≡ k = omega arith in
    get_or-append_right (take place.addr memory ++ bytes_of (size_bytes place.size) value) (drop (place.addr + size_bytes place.size) memory) (place.addr + size_bytes place.size) k 0 front past
    ∙ get_or-drop (place.addr + size_bytes place.size) memory (k - (place.addr + size_bytes place.size)) 0
    ∙ ap (slice_index memory) end

-- memory of bytes stays so
pub stored-byte : (memory : List ℕ) (place : Place) (value : ℕ) → place.addr + size_bytes place.size ≤ length memory
    → ((k : ℕ) → slice_index memory k < 256) → (k : ℕ) → slice_index (stored memory place value) k < 256
stored-byte memory place value inside bytes k = elim (cases_lt k place.addr) [
  | inl low ↦ rw (stored-before memory place value k inside low) (bytes k)
  | inr from ↦ elim (cases_lt k (place.addr + size_bytes place.size)) [
    | inl below ↦ rw (stored-within memory place value k inside from below) (bytes_of-byte (size_bytes place.size) value (k - place.addr))
    | inr past ↦ rw (stored-past memory place value k inside past) (bytes k)
  ]
]

-- two memories that agree at each byte of a place agree on its value
pub value_at-same : (one other : List ℕ) (place : Place)
    → place.addr + size_bytes place.size ≤ length one → place.addr + size_bytes place.size ≤ length other
    → ((k : ℕ) → place.addr ≤ k → k < place.addr + size_bytes place.size → slice_index one k ≡ slice_index other k)
    → value_at one place ≡ value_at other place
value_at-same one other place first second same =
    let long : length (take (size_bytes place.size) (drop place.addr one)) ≡ size_bytes place.size = omega (arith, length-take (size_bytes place.size) (drop place.addr one), length-drop place.addr one) in
    let longer : length (take (size_bytes place.size) (drop place.addr other)) ≡ size_bytes place.size = omega (arith, length-take (size_bytes place.size) (drop place.addr other), length-drop place.addr other) in
    ap number_of (ext_get_or 0 (take (size_bytes place.size) (drop place.addr one)) (take (size_bytes place.size) (drop place.addr other)) (long ∙ sym longer)
    (λ k below.
    let h : k < size_bytes place.size = omega arith in
    get_or-take (size_bytes place.size) (drop place.addr one) k 0 h
    ∙ get_or-drop place.addr one k 0
    ∙ same (place.addr + k) (omega arith) (omega arith)
    ∙ sym (get_or-drop place.addr other k 0)
    ∙ sym (get_or-take (size_bytes place.size) (drop place.addr other) k 0 h)))

-- the value of the place of a store
pub value_at-stored : (memory : List ℕ) (place : Place) (value : ℕ) → place.addr + size_bytes place.size ≤ length memory
    → value < 256 ^ size_bytes place.size → value_at (stored memory place value) place ≡ value
value_at-stored memory place value inside fits =
    let kept = length-stored memory place value inside in
    let long : length (take (size_bytes place.size) (drop place.addr (stored memory place value))) ≡ size_bytes place.size = omega (arith, length-take (size_bytes place.size) (drop place.addr (stored memory place value)), length-drop place.addr (stored memory place value)) in
    ap number_of (ext_get_or 0 (take (size_bytes place.size) (drop place.addr (stored memory place value))) (bytes_of (size_bytes place.size) value) (long ∙ sym (length-bytes_of (size_bytes place.size) value))
    (λ k below.
    let h : k < size_bytes place.size = omega arith in
    let back : place.addr + k - place.addr ≡ k = omega arith in
    get_or-take (size_bytes place.size) (drop place.addr (stored memory place value)) k 0 h
    ∙ get_or-drop place.addr (stored memory place value) k 0
    ∙ stored-within memory place value (place.addr + k) inside (omega arith) (omega arith)
    ∙ ap (slice_index (bytes_of (size_bytes place.size) value)) back))
    ∙ number_of-bytes_of (size_bytes place.size) value
    ∙ mod-eq_of_lt fits

-- the value of a place that shares no byte with the place of a store
pub value_at-stored_apart : (memory : List ℕ) (place other : Place) (value : ℕ)
    → place.addr + size_bytes place.size ≤ length memory → other.addr + size_bytes other.size ≤ length memory
    → (place.addr + size_bytes place.size ≤ other.addr) ⊎ (other.addr + size_bytes other.size ≤ place.addr)
    → value_at (stored memory place value) other ≡ value_at memory other
value_at-stored_apart memory place other value inside other_inside apart =
    let kept = length-stored memory place value inside in
    value_at-same (stored memory place value) memory other (omega arith) other_inside (λ k from below. elim apart [
      | inl after ↦ stored-past memory place value k inside (omega arith)
      | inr before ↦ stored-before memory place value k inside (omega arith)
    ])
