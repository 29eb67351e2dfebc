-- The words of an assembled program, as they are fetched from its image.
use Rattle.std.proofs.Common.{◌≡◌, ℕ, zero, suc, ◌+◌, ◌-◌, ◌*◌, ◌^◌, ◌<◌, ◌≤◌, ◌&&◌, ◌||◌, Bool, true, false, nat_le, nat_lt, if◌then◌else◌, List, [], ◌∷◌, length, slice_index, Some, None, refl, ap, ◌∙◌, arith}
use Rattle.std.proofs.lemmas.List.{get_or_append_left, get_or-append_right}
use Rattle.std.proofs.Math.Nat.{mod-eq_of_lt}
use Rattle.llsc_base.specs.Memory.{bytes_of, value_at}
use Rattle.llsc_base.specs.Flat.{values_below}
use Rattle.llsc_base.specs.Images.{runs_at, word_at}
use Rattle.llsc_base.specs.Sizes.{Numbers}
use Rattle.llsc_base.specs.declared.access.Size.TheVariants.{B4}
use Rattle.llsc_base.proofs.Bytes.{length-bytes_of, number_of-bytes_of}
use Rattle.elf32.specs.Units.{code_bytes, unit_byte, unit_image}
use Rattle.elf32.specs.declared.units.Unit.{Unit}
use Rattle.elf32.proofs.FirstWords.{word-is}

-- the bytes of the code are those of its words
code-slice : (words : List ℕ) (k j : ℕ) → k < length words → j < 4
    → slice_index (code_bytes words) (4 * k + j) ≡ slice_index (bytes_of 4 (slice_index words k)) j
code-slice [] k j known small = absurd (omega (arith, known))
code-slice (word ∷ words) zero j known small =
    let same : 4 * 0 + j ≡ j = omega arith in
    ap (slice_index (code_bytes (word ∷ words))) same
    ∙ get_or_append_left (bytes_of 4 word) (code_bytes words) 0 j (omega (arith, small, length-bytes_of 4 word))
code-slice (word ∷ words) (suc k) j known small =
    let less : 4 * suc k + j - 4 ≡ 4 * k + j = omega arith in
    get_or-append_right (bytes_of 4 word) (code_bytes words) 4 (4 * suc k + j) 0 (length-bytes_of 4 word) (omega arith)
    ∙ ap (slice_index (code_bytes words)) less
    ∙ code-slice words k j (omega (arith, known)) small

-- an address of the code lies in its bytes
in_code : (k j len : ℕ) → k < len → j < 4 → (nat_le 4096 (4096 + 4 * k + j) && nat_lt (4096 + 4 * k + j) (4096 + 4 * len)) ≡ true
in_code k j len known small = grind (arith, known, small)

-- a byte of the image is that of the word
unit-byte : (unit : Unit) (k j : ℕ) → k < length unit.words → j < 4
    → unit_byte unit (4096 + 4 * k + j) ≡ slice_index (bytes_of 4 (slice_index unit.words k)) j
unit-byte unit k j known small =
    let back : 4096 + 4 * k + j - 4096 ≡ 4 * k + j = omega arith in
    rw (in_code k j (length unit.words) known small, back) (code-slice unit.words k j known small)

-- the number that stands at a word of the code is the word
word-value : (unit : Unit) (mem k : ℕ) → k < length unit.words → 4096 + 4 * length unit.words ≤ mem
    → slice_index unit.words k < 2 ^ 32
    → value_at (values_below mem (unit_byte unit)) (record { addr = 4096 + 4 * k; size = B4 }) ≡ slice_index unit.words k
word-value unit mem k known room small =
    let word = slice_index unit.words k in
    word-is mem (unit_byte unit) (4096 + 4 * k) (bytes_of 4 word) (omega (arith, known, room)) (length-bytes_of 4 word)
    (λ j below. unit-byte unit k j known below)
    ∙ number_of-bytes_of 4 word
    ∙ mod-eq_of_lt small

or_true : (a b : Bool) → a ≡ true → (a || b) ≡ true
or_true true b e = refl
or_true false b e = absurd (let f : ⊥ = cc in f)

-- the code's span holds it
held : (k len : ℕ) → k < len → (nat_le 4096 (4096 + 4 * k) && nat_le (4096 + 4 * k + 4) (4096 + 4 * len)) ≡ true
held k len known = grind (arith, known)

-- a word of the code may be run where it stands
pub fetched : (unit : Unit) (size : Numbers) (k : ℕ) → k < length unit.words → 4096 + 4 * length unit.words ≤ size.mem
    → slice_index unit.words k < 2 ^ 32 → word_at (unit_image unit size) (4096 + 4 * k) ≡ Some (slice_index unit.words k)
fetched unit size k known room small =
    let runs : runs_at (unit_image unit size).spans (4096 + 4 * k) ≡ true = or_true _ _ (held k (length unit.words) known) in
    ap (λ b. if b then Some (value_at (unit_image unit size).bytes (record { addr = 4096 + 4 * k; size = B4 })) else None) runs
    ∙ ap Some (word-value unit size.mem k known room small)
