-- Numbers as bytes, and the numbers that parts of those bytes spell.
use Rattle.std.proofs.Common.{◌≡◌, ℕ, zero, suc, ◌+◌, ◌-◌, ◌*◌, ◌/◌, ◌%◌, ◌^◌, ◌<◌, ◌≤◌, List, [], ◌∷◌, ◌++◌, length, take, drop, slice_index, refl, sym, ap, ◌∙◌, arith}
use Rattle.std.proofs.Math.Nat.{div-div-eq-div-mul, div-one, pow-succ'}
use Rattle.llsc_base.specs.Memory.{bytes_of, number_of}
use Rattle.llsc_base.proofs.Bytes.{number_of-bytes_of}

-- the first bytes of a number
pub take-bytes_of : (n k v : ℕ) → n ≤ k → take n (bytes_of k v) ≡ bytes_of n v
unfolding bytes_of
take-bytes_of zero k v h = refl
take-bytes_of (suc n) zero v h = absurd (omega arith)
take-bytes_of (suc n) (suc k) v h = ap (λ (xs : List ℕ). v % 256 ∷ xs) (take-bytes_of n k (v / 256) (omega arith))

-- the bytes of a number above its first ones
pub drop-bytes_of : (n k v : ℕ) → n ≤ k → drop n (bytes_of k v) ≡ bytes_of (k - n) (v / 256 ^ n)
unfolding bytes_of
drop-bytes_of zero k v h = let same : k - 0 ≡ k = omega arith in rw same (ap (bytes_of k) (sym (div-one v)))
drop-bytes_of (suc n) zero v h = absurd (omega arith)
drop-bytes_of (suc n) (suc k) v h =
    let shift : v / 256 / 256 ^ n ≡ v / 256 ^ suc n = div-div-eq-div-mul v 256 (256 ^ n) ∙ ap (λ (p : ℕ). v / p) (sym (pow-succ' 256 n)) in
    let less : suc k - suc n ≡ k - n = omega arith in
    rw (less) (drop-bytes_of n k (v / 256) (omega arith) ∙ ap (bytes_of (k - n)) shift)

-- the number that some bytes of a number spell
pub number_of-part : (n at k v : ℕ) → at + n ≤ k → number_of (take n (drop at (bytes_of k v))) ≡ v / 256 ^ at % 256 ^ n
number_of-part n at k v h =
    rw (drop-bytes_of at k v (omega arith), take-bytes_of n (k - at) (v / 256 ^ at) (omega arith)) (number_of-bytes_of n (v / 256 ^ at))

-- the number that bytes and further bytes spell
pub number_of-append : (xs ys : List ℕ) → number_of (xs ++ ys) ≡ number_of xs + 256 ^ length xs * number_of ys
unfolding number_of
number_of-append [] ys = omega arith
number_of-append (x ∷ xs) ys = rw (number_of-append xs ys, pow-succ' 256 (length xs)) (omega arith)

-- bytes are those of the number that they spell
pub bytes_of-number_of : (bytes : List ℕ) → ((k : ℕ) → slice_index bytes k < 256) → bytes_of (length bytes) (number_of bytes) ≡ bytes
unfolding bytes_of number_of
bytes_of-number_of [] h = refl
bytes_of-number_of (byte ∷ bytes) h =
    let small : byte < 256 = h 0 in
    let low : (byte + 256 * number_of bytes) % 256 ≡ byte = omega arith in
    let high : (byte + 256 * number_of bytes) / 256 ≡ number_of bytes = omega arith in
    rw (low, high) (ap (λ (xs : List ℕ). byte ∷ xs) (bytes_of-number_of bytes (λ k. h (suc k))))
