-- The numbers that bytes spell, and memory after a store.
use Rattle.std.proofs.Common.{◌≡◌, ℕ, zero, suc, ◌+◌, ◌/◌, ◌%◌, ◌^◌, ◌<◌, ◌≤◌, List, [], ◌∷◌, ◌++◌, length, take, drop, slice_index, refl, sym, ap, ◌∙◌, arith, length-append, length-take, length-drop, inl, inr, subst}
use Rattle.std.proofs.lemmas.List.{append_assoc, drop_at, take_at, length-take-le, drop_more, get_or-take, get_or-drop, get_or_past}
use Rattle.std.proofs.lemmas.Bool.{cases_lt}
use Rattle.std.proofs.Math.Nat.{div-div-eq-div-mul, div-one, one-le-pow, pow-suc, pow-succ'}
use Rattle.std.proofs.Math.Arith.{mod-mul}
use Rattle.std.specs.Int.{w16, w32, w64, byte_at, bytes_low_first, from_le_bytes, to_le_bytes}
use Rattle.llsc_base.specs.Memory.{number_of, bytes_of, size_bytes, stored, value_at}
use Rattle.llsc_base.specs.declared.access.Place.{Place}

-- ---- one byte, and a number of two, four or eight

pub number_of-1 : (a : ℕ) → number_of (a ∷ []) ≡ a
unfolding number_of
number_of-1 a = omega arith

pub number_of-2 : (a b : ℕ) → number_of (a ∷ b ∷ []) ≡ from_le_bytes w16 (a ∷ b ∷ [])
unfolding number_of
number_of-2 a b = omega arith

pub number_of-4 : (a b c d : ℕ) → number_of (a ∷ b ∷ c ∷ d ∷ []) ≡ from_le_bytes w32 (a ∷ b ∷ c ∷ d ∷ [])
unfolding number_of
number_of-4 a b c d = omega arith

pub number_of-8 : (a b c d e f g h : ℕ)
    → number_of (a ∷ b ∷ c ∷ d ∷ e ∷ f ∷ g ∷ h ∷ []) ≡ from_le_bytes w64 (a ∷ b ∷ c ∷ d ∷ e ∷ f ∷ g ∷ h ∷ [])
unfolding number_of
number_of-8 a b c d e f g h = omega arith

-- ---- two, four and eight bytes of memory, one by one

take-drop-more : (m : List ℕ) (n at : ℕ) → at < length m → take (suc n) (drop at m) ≡ slice_index m at ∷ take n (drop (at + 1) m)
take-drop-more m n at h = rw (drop_more m at 0 h) refl

pub number_of-read_1 : (m : List ℕ) (at : ℕ) → at + 1 ≤ length m → number_of (take 1 (drop at m)) ≡ slice_index m at
number_of-read_1 m at h = rw (take-drop-more m 0 at (omega arith)) (number_of-1 _)

pub number_of-read_2 : (m : List ℕ) (at : ℕ) → at + 2 ≤ length m
    → number_of (take 2 (drop at m)) ≡ from_le_bytes w16 (slice_index m at ∷ slice_index m (at + 1) ∷ [])
number_of-read_2 m at h = rw (take-drop-more m 1 at (omega arith), take-drop-more m 0 (at + 1) (omega arith)) (number_of-2 _ _)

-- the four bytes from an index on, one by one
take-drop-four : (m : List ℕ) (n at : ℕ) → at + 4 ≤ length m
    → take (suc (suc (suc (suc n)))) (drop at m)
    ≡ slice_index m at ∷ slice_index m (at + 1) ∷ slice_index m (at + 2) ∷ slice_index m (at + 3) ∷ take n (drop (at + 4) m)
take-drop-four m n at h =
    let two : at + 1 + 1 ≡ at + 2 = omega arith in
    let three : at + 2 + 1 ≡ at + 3 = omega arith in
    let four : at + 3 + 1 ≡ at + 4 = omega arith in
    rw (
      take-drop-more m (suc (suc (suc n))) at (omega arith),
      take-drop-more m (suc (suc n)) (at + 1) (omega arith),
      two,
      take-drop-more m (suc n) (at + 2) (omega arith),
      three,
      take-drop-more m n (at + 3) (omega arith),
      four,
    ) refl

pub number_of-read_4 : (m : List ℕ) (at : ℕ) → at + 4 ≤ length m
    → number_of (take 4 (drop at m))
    ≡ from_le_bytes w32 (slice_index m at ∷ slice_index m (at + 1) ∷ slice_index m (at + 2) ∷ slice_index m (at + 3) ∷ [])
number_of-read_4 m at h = rw (take-drop-four m 0 at h) (number_of-4 _ _ _ _)

pub number_of-read_8 : (m : List ℕ) (at : ℕ) → at + 8 ≤ length m
    → number_of (take 8 (drop at m))
    ≡ from_le_bytes w64 (slice_index m at ∷ slice_index m (at + 1) ∷ slice_index m (at + 2) ∷ slice_index m (at + 3)
    ∷ slice_index m (at + 4) ∷ slice_index m (at + 5) ∷ slice_index m (at + 6) ∷ slice_index m (at + 7) ∷ [])
number_of-read_8 m at h =
    let five : at + 4 + 1 ≡ at + 5 = omega arith in
    let six : at + 4 + 2 ≡ at + 6 = omega arith in
    let seven : at + 4 + 3 ≡ at + 7 = omega arith in
    rw (take-drop-four m 4 at (omega arith), take-drop-four m 0 (at + 4) (omega arith), five, six, seven) (number_of-8 _ _ _ _ _ _ _ _)

-- ---- the bytes of a number

byte_at-pow : (i v : ℕ) → v / 256 ^ i % 256 ≡ byte_at i v
byte_at-pow zero v = ap (λ (y : ℕ). y % 256) (div-one v)
byte_at-pow (suc i) v = refl

-- the bytes of what is left of a number above its first ones are its later bytes
bytes_of-div : (i n v : ℕ) → bytes_of n (v / 256 ^ i) ≡ bytes_low_first i n v
unfolding bytes_of
bytes_of-div i zero v = refl
bytes_of-div i (suc n) v =
    let shift : v / 256 ^ i / 256 ≡ v / 256 ^ suc i = div-div-eq-div-mul v (256 ^ i) 256 ∙ ap (λ (p : ℕ). v / p) (sym (pow-suc 256 i)) in
    rw (shift, byte_at-pow i v, bytes_of-div (suc i) n v) refl

bytes_of-low_first : (n v : ℕ) → bytes_of n v ≡ bytes_low_first 0 n v
bytes_of-low_first n v = ap (bytes_of n) (sym (div-one v)) ∙ bytes_of-div 0 n v

pub bytes_of-1 : (v : ℕ) → bytes_of 1 v ≡ v % 256 ∷ []
bytes_of-1 v = bytes_of-low_first 1 v

pub bytes_of-2 : (v : ℕ) → bytes_of 2 v ≡ to_le_bytes w16 v
bytes_of-2 v = bytes_of-low_first 2 v

pub bytes_of-4 : (v : ℕ) → bytes_of 4 v ≡ to_le_bytes w32 v
bytes_of-4 v = bytes_of-low_first 4 v

pub bytes_of-8 : (v : ℕ) → bytes_of 8 v ≡ to_le_bytes w64 v
bytes_of-8 v = bytes_of-low_first 8 v

pub length-bytes_of : (n v : ℕ) → length (bytes_of n v) ≡ n
unfolding bytes_of
length-bytes_of zero v = refl
length-bytes_of (suc n) v = ap suc (length-bytes_of n (v / 256))

-- ---- there and back

pow_pos256 : (n : ℕ) → 0 < 256 ^ n
pow_pos256 n = let h = one-le-pow n 256 (omega arith) in omega arith

-- so many bytes of a number spell it, but for what is above them
pub number_of-bytes_of : (n v : ℕ) → number_of (bytes_of n v) ≡ v % 256 ^ n
unfolding number_of bytes_of
number_of-bytes_of zero v = omega arith
number_of-bytes_of (suc n) v =
    let rest = number_of-bytes_of n (v / 256) in
    let split = mod-mul v {m = 256 ^ n} {c = 256} (pow_pos256 n) (omega arith) in
    rw (pow-suc 256 n, split, rest) (omega arith)

-- bytes spell no number of more bytes
pub number_of-lt : (bytes : List ℕ) → ((k : ℕ) → slice_index bytes k < 256) → number_of bytes < 256 ^ length bytes
unfolding number_of
number_of-lt [] h = omega arith
number_of-lt (byte ∷ bytes) h =
    let first : byte < 256 = h 0 in
    let rest = number_of-lt bytes (λ k. h (suc k)) in
    rw (pow-succ' 256 (length bytes)) (omega arith)

-- ---- memory

-- where every element is a byte, so is every element of a part
take-drop-lt : (m : List ℕ) (n at k : ℕ) → ((i : ℕ) → slice_index m i < 256) → slice_index (take n (drop at m)) k < 256
take-drop-lt m n at k h = elim (cases_lt k n) [
  | inl within ↦ rw (get_or-take n (drop at m) k 0 within, get_or-drop at m k 0) (h (at + k))
  | inr past ↦
      let short : length (take n (drop at m)) ≤ k = omega (arith, length-take n (drop at m)) in
      rw (get_or_past (take n (drop at m)) k 0 short) (omega arith)
]

-- where a place lies in memory of bytes, its value is below 256 to the power of its size
pub value_at-lt : (memory : List ℕ) (place : Place) → ((k : ℕ) → slice_index memory k < 256)
    → place.addr + size_bytes place.size ≤ length memory → value_at memory place < 256 ^ size_bytes place.size
value_at-lt memory place h inside =
    let n = size_bytes place.size in
    let long : length (take n (drop place.addr memory)) ≡ n = omega (arith, length-take n (drop place.addr memory), length-drop place.addr memory) in
    let small = number_of-lt (take n (drop place.addr memory)) (λ k. take-drop-lt memory n place.addr k h) in
    let P : ℕ → Type 0 = λ l. value_at memory place < 256 ^ l in subst P long small

-- a store inside keeps the length
pub length-stored : (memory : List ℕ) (place : Place) (value : ℕ)
    → place.addr + size_bytes place.size ≤ length memory → length (stored memory place value) ≡ length memory
length-stored memory place value inside = omega (arith, length-append (take place.addr memory ++ bytes_of (size_bytes place.size) value) (drop (place.addr + size_bytes place.size) memory), length-append (take place.addr memory) (bytes_of (size_bytes place.size) value), length-bytes_of (size_bytes place.size) value, length-take place.addr memory, length-drop (place.addr + size_bytes place.size) memory)

-- what loads and stores are shown by
pub ruleset byte_rules = (number_of-read_1, number_of-read_2, number_of-read_4, number_of-read_8, bytes_of-1, bytes_of-2, bytes_of-4, bytes_of-8)

-- a store inside puts the number there, but for what is above its size
pub value_at-stored : (memory : List ℕ) (place : Place) (value : ℕ)
    → place.addr + size_bytes place.size ≤ length memory
    → value_at (stored memory place value) place ≡ value % 256 ^ size_bytes place.size
value_at-stored memory place value inside =
    let front = take place.addr memory in
    let bytes = bytes_of (size_bytes place.size) value in
    let rest = drop (place.addr + size_bytes place.size) memory in
    let long : length front ≡ place.addr = length-take-le place.addr memory (omega arith) in
    rw (append_assoc front bytes rest, drop_at front (bytes ++ rest) place.addr long, take_at bytes rest (size_bytes place.size) (length-bytes_of _ value))
    (number_of-bytes_of _ value)
