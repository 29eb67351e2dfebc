-- Lists of registers are read again as they are shown.
use Rattle.std.proofs.Common.{◌≡◌, ℕ, zero, suc, cond, ◌+◌, ◌*◌, ◌/◌, ◌%◌, ◌<◌, ◌≤◌, ◌^◌, Bool, true, false, Some, List, [], ◌∷◌, ◌++◌, length, map, refl, sym, ap, arith, codes, append_assoc, append-nil, eqb, add-one}
use Rattle.std.specs.Prelude.{nat_lt, filter}
use Rattle.std.specs.List.{list_all, slice_split}
use Rattle.std.proofs.lemmas.Nat.{mod-pow-add, pow-add}
use Rattle.std.proofs.Math.Nat.{div-div-eq-div-mul}
use Rattle.std.proofs.lemmas.Bool.Decides.{nat_tests}
use Rattle.a32_instr.specs.Block.{is_listed, registers_of}
use Rattle.a32_forms.specs.Text.{Part, Word, Mark, begins_wordy, parts}
use Rattle.a32_forms.specs.Names.{register_name}
use Rattle.a32_forms.specs.Registers.{rises, mask, mask_from, is_mark, registers_in, list_text}
use Rattle.a32_forms.specs.Forms.{before_mark, from_mark}
use Rattle.a32_forms.specs.Shown.{list_parts}
use Rattle.a32_forms.proofs.NamesAgain.{register_again}
use Rattle.a32_forms.proofs.WordParts.{parts_word, register_is_word}

-- registers, each of them below 16
abbrev pub are_registers : List ℕ → Bool
are_registers registers = list_all (λ register. nat_lt register 16) registers

-- Where a number begins with digits that rise, what the list of the set bits has.

-- so many numbers, from one up
unfoldable pub up : ℕ → ℕ → List ℕ
up zero from = []
up (suc count) from = from ∷ up count (from + 1)

up_16 : 0 ∷ 1 ∷ 2 ∷ 3 ∷ 4 ∷ 5 ∷ 6 ∷ 7 ∷ 8 ∷ 9 ∷ 10 ∷ 11 ∷ 12 ∷ 13 ∷ 14 ∷ 15 ∷ [] ≡ up 16 0
unfolding up
up_16 = refl

pub listed : (v : ℕ) → registers_of v ≡ filter (is_listed v) (up 16 0)
unfolding registers_of
listed v = ap (filter (is_listed v)) up_16

cond_small : (b : Bool) (register : ℕ) (registers : List ℕ) → register < 16 → are_registers registers ≡ true → are_registers (cond b (register ∷ registers) registers) ≡ true
cond_small true register registers h k = grind (arith, nat_tests, k)
cond_small false register registers h k = k

filter_small : (p : ℕ → Bool) (count from : ℕ) → from + count ≤ 16 → are_registers (filter p (up count from)) ≡ true
unfolding up
filter_small p zero from h = refl
filter_small p (suc count) from h = cond_small (p from) from (filter p (up count (from + 1))) (omega (arith, h)) (filter_small p count (from + 1) (omega (arith, h)))

pub list_small : (v : ℕ) → are_registers (registers_of v) ≡ true
list_small v = rw (listed v) (filter_small (is_listed v) 16 0 (omega arith))

-- one register as an item of a list
abbrev item : ℕ → List Part
item register = Word (register_name register) ∷ []

-- the number whose set bits are those of another from one on
abbrev bits : ℕ → ℕ → ℕ → ℕ
bits v count from = v / 2 ^ from % 2 ^ count * 2 ^ from

bits_halves : (q p count rest : ℕ) → q % 2 ^ suc count ≡ rest * 2 + q % 2 → q % 2 ^ suc count * p ≡ q % 2 * p + rest * (p * 2)
bits_halves q p count rest h = rw h (omega arith)

bits_step : (v count from : ℕ) → bits v (suc count) from ≡ v / 2 ^ from % 2 * 2 ^ from + bits v count (from + 1)
bits_step v count from =
    let q = v / 2 ^ from in
    let halves : q % 2 ^ suc count ≡ q / 2 % 2 ^ count * 2 + q % 2 = rw (← add-one count) (mod-pow-add q count 1) in
    let half : v / 2 ^ (from + 1) ≡ q / 2 = rw (pow-add 2 from 1) (sym (div-div-eq-div-mul v (2 ^ from) 2)) in
    rw (half, pow-add 2 from 1) (bits_halves q (2 ^ from) count (q / 2 % 2 ^ count) halves)

one_mask : (register : ℕ) → mask (record { first = register; last = register }) ≡ 2 ^ register
one_mask register = omega (arith, pow-add 2 register 1)

cond_mask : (b : Bool) (register lowest others : ℕ) (registers : List ℕ) → register < 16 → lowest ≤ register → mask_from (register + 1) (map item registers) ≡ Some others → mask_from lowest (map item registers) ≡ Some others → mask_from lowest (map item (cond b (register ∷ registers) registers)) ≡ Some (cond b (2 ^ register + others) others)
unfolding mask_from
cond_mask true register lowest others registers h low further same =
    let up : rises lowest (record { first = register; last = register }) ≡ true = grind (arith, nat_tests, low) in
    rw (register_again register h, up, further, one_mask register) refl
cond_mask false register lowest others registers h low further same = same

bit_by : (bit power others : ℕ) → bit < 2 → cond (eqb bit 1) (power + others) others ≡ bit * power + others
bit_by zero power others h = omega arith
bit_by (suc zero) power others h = omega arith
bit_by (suc (suc bit)) power others h = absurd (omega (arith, h))

bit_value : (v register others : ℕ) → cond (is_listed v register) (2 ^ register + others) others ≡ v / 2 ^ register % 2 * 2 ^ register + others
bit_value v register others = bit_by (v / 2 ^ register % 2) (2 ^ register) others (omega arith)

no_bits : (q p : ℕ) → 0 ≡ q % 1 * p
no_bits q p = let none : q % 1 ≡ 0 = omega arith in rw none (omega arith)

masks : (v count from lowest : ℕ) → from + count ≤ 16 → lowest ≤ from → mask_from lowest (map item (filter (is_listed v) (up count from))) ≡ Some (bits v count from)
unfolding up mask_from
masks v zero from lowest h low = ap Some (no_bits (v / 2 ^ from) (2 ^ from))
masks v (suc count) from lowest h low =
    rw (bits_step v count from, ← bit_value v from (bits v count (from + 1)))
    (cond_mask (is_listed v from) from lowest (bits v count (from + 1)) (filter (is_listed v) (up count (from + 1))) (omega (arith, h)) low (masks v count (from + 1) (from + 1) (omega (arith, h)) (omega arith)) (masks v count (from + 1) lowest (omega (arith, h)) (omega (arith, low))))

pub list_mask : (v : ℕ) → v < 2 ^ 16 → mask_from 0 (map item (registers_of v)) ≡ Some v
list_mask v h = rw (listed v, masks v 16 0 0 (omega arith) (omega arith)) (ap Some (omega (arith, h)))

some_by : (registers : List ℕ) (v : ℕ) → 0 < v → mask_from 0 (map item registers) ≡ Some v → 0 < length registers
unfolding mask_from
some_by [] v some h = let none : 0 ≡ v = cc in absurd (omega (arith, some))
some_by (register ∷ registers) v some h = omega arith

-- a list is not empty where a bit is set
pub list_some : (v : ℕ) → 0 < v → v < 2 ^ 16 → 0 < length (registers_of v)
list_some v some h = some_by (registers_of v) v some (list_mask v h)

-- The parts of a list.

split_items : (register : ℕ) (registers : List ℕ) → slice_split (is_mark 44) (list_parts (register ∷ registers)) ≡ map item (register ∷ registers)
unfolding list_parts
split_items register [] = refl
split_items register (next ∷ registers) = rw (split_items next registers) refl

read_by : (registers : List ℕ) (v : ℕ) → 0 < length registers → mask_from 0 (map item registers) ≡ Some v → registers_in (list_parts registers) ≡ Some v
read_by [] v some h = absurd (omega (arith, some))
read_by (register ∷ registers) v some h = rw (split_items register registers) h

pub list_again : (v : ℕ) → 0 < v → v < 2 ^ 16 → registers_in (list_parts (registers_of v)) ≡ Some v
list_again v some h = read_by (registers_of v) v (list_some v some h) (list_mask v h)

pub before_brace : (registers : List ℕ) (rest : List Part) → before_mark 125 (list_parts registers ++ Mark 125 ∷ rest) ≡ list_parts registers
unfolding list_parts before_mark
before_brace [] rest = refl
before_brace (register ∷ []) rest = refl
before_brace (register ∷ next ∷ registers) rest = rw (before_brace (next ∷ registers) rest) refl

pub from_brace : (registers : List ℕ) (rest : List Part) → from_mark 125 (list_parts registers ++ Mark 125 ∷ rest) ≡ Mark 125 ∷ rest
unfolding list_parts from_mark
from_brace [] rest = refl
from_brace (register ∷ []) rest = refl
from_brace (register ∷ next ∷ registers) rest = from_brace (next ∷ registers) rest

pub parts_list : (registers : List ℕ) (rest : List ℕ) → are_registers registers ≡ true → begins_wordy rest ≡ false → parts (list_text registers ++ rest) ≡ list_parts registers ++ parts rest
unfolding list_text list_parts parts
parts_list [] rest h ends = refl
parts_list (register ∷ []) rest h ends = parts_word (register_name register) rest (register_is_word register (grind (arith, nat_tests, h))) ends
parts_list (register ∷ next ∷ registers) rest h ends =
    let small : register < 16 = grind (arith, nat_tests, h) in
    let others : are_registers (next ∷ registers) ≡ true = grind (arith, nat_tests, h) in
    rw (
      append_assoc (register_name register) (codes ", " ++ list_text (next ∷ registers)) rest,
      parts_word (register_name register) (codes ", " ++ (list_text (next ∷ registers) ++ rest)) (register_is_word register small) refl,
      parts_list (next ∷ registers) rest others ends,
    ) refl

pub list_text_again : (v : ℕ) → 0 < v → v < 2 ^ 16 → registers_in (parts (list_text (registers_of v))) ≡ Some v
unfolding parts
list_text_again v some h =
    rw (← append-nil (list_text (registers_of v)), parts_list (registers_of v) [] (list_small v) refl, append-nil (list_parts (registers_of v)))
    (list_again v some h)
