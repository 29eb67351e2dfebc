-- A word of a program's memory at first, by its bytes.
use Rattle.std.proofs.Common.{◌≡◌, ℕ, zero, suc, ◌+◌, ◌<◌, ◌≤◌, List, [], ◌∷◌, length, take, drop, slice_index, refl, sym, ap, ◌∙◌, arith, length-take, length-drop}
use Rattle.std.proofs.lemmas.List.{ext_get_or, get_or-drop, get_or-take}
use Rattle.llsc_base.specs.Flat.{values_below}
use Rattle.llsc_base.specs.Memory.{number_of, value_at}
use Rattle.llsc_base.specs.declared.access.Size.TheVariants.{B4}
use Rattle.llsc_base.proofs.Values.{length-values_below, slice_index-values_below}

-- The word at an address, where the bytes of memory are a function's values, and those from the address up are these four.
pub word-is : (mem : ℕ) (f : ℕ → ℕ) (addr : ℕ) (four : List ℕ) → addr + 4 ≤ mem → length four ≡ 4
    → ((j : ℕ) → j < 4 → f (addr + j) ≡ slice_index four j)
    → value_at (values_below mem f) (record { addr = addr; size = B4 }) ≡ number_of four
word-is mem f addr four room many are =
    let bytes = values_below mem f in
    let long : length (take 4 (drop addr bytes)) ≡ 4 = omega (arith, room, length-take 4 (drop addr bytes), length-drop addr bytes, length-values_below mem f) in
    ap number_of (ext_get_or 0 (take 4 (drop addr bytes)) four (long ∙ sym many)
    (λ j below.
    let h : j < 4 = omega (arith, below, long) in
    get_or-take 4 (drop addr bytes) j 0 h
    ∙ get_or-drop addr bytes j 0
    ∙ slice_index-values_below mem f (addr + j) (omega (arith, room, h))
    ∙ are j h))

-- a function's values from an address up
abbrev pub four_from : (ℕ → ℕ) → ℕ → List ℕ
four_from f addr = f addr ∷ f (addr + 1) ∷ f (addr + 2) ∷ f (addr + 3) ∷ []

four-at : (f : ℕ → ℕ) (addr j : ℕ) → j < 4 → f (addr + j) ≡ slice_index (four_from f addr) j
four-at f addr zero less = ap f (omega arith)
four-at f addr (suc zero) less = refl
four-at f addr (suc (suc zero)) less = refl
four-at f addr (suc (suc (suc zero))) less = refl
four-at f addr (suc (suc (suc (suc j)))) less = absurd (omega (arith, less))

-- So it is the number of the values there.
pub word-first : (mem : ℕ) (f : ℕ → ℕ) (addr : ℕ) → addr + 4 ≤ mem
    → value_at (values_below mem f) (record { addr = addr; size = B4 }) ≡ number_of (four_from f addr)
word-first mem f addr room = word-is mem f addr (four_from f addr) room refl (four-at f addr)
