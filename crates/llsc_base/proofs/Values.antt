-- Lists made of a function's values, and the memory of a flat file.
use Rattle.std.proofs.Common.{◌≡◌, ℕ, ◌+◌, ◌-◌, ◌<◌, ◌≤◌, Bool, true, false, List, ◌++◌, length, take, drop, replicate, slice_index, arith, rules, inl, inr, nat_le, nat_lt, ◌&&◌, if◌then◌else◌, ◌||◌, ◌==◌, ◌%◌, not, None, Some}
use Rattle.std.proofs.lemmas.List.FromFn.{fill_by_all, get_or-map-range_with_len, length-map-range_with_len}
use Rattle.std.proofs.lemmas.List.{places, length-append, length-take, length-drop, length-replicate}
use Rattle.std.proofs.lemmas.Bool.{cases_lt}
use Rattle.llsc_base.specs.Limits.{code_start}
use Rattle.llsc_base.specs.Flat.{flat_byte, flat_fault, values_below}
use Rattle.llsc_base.specs.Sizes.{Numbers, room_of}
use Rattle.llsc_base.specs.declared.flat.FlatFault.TheVariants as fault

-- there are so many values
pub length-values_below : (count : ℕ) (f : ℕ → ℕ) → length (values_below count f) ≡ count
unfolding values_below
length-values_below count f = length-map-range_with_len f 0 count

-- the value at an index is the function's
pub slice_index-values_below : (count : ℕ) (f : ℕ → ℕ) (k : ℕ) → k < count → slice_index (values_below count f) k ≡ f k
unfolding values_below
slice_index-values_below count f k h = get_or-map-range_with_len f 0 count k k 0 h (omega arith)

-- a list with these values is the list of them
pub values_below-is : (xs : List ℕ) (count : ℕ) (f : ℕ → ℕ) → length xs ≡ count
    → ((k : ℕ) → k < count → slice_index xs k ≡ f k) → xs ≡ values_below count f
unfolding values_below
values_below-is xs count f long h = fill_by_all f xs count 0 long h

-- a file's bytes from an index on, and 0 elsewhere
abbrev byte_from : ℕ → List ℕ → ℕ → ℕ
byte_from start file k = if nat_le start k && nat_lt k (start + length file) then slice_index file (k - start) else 0

inside : (start len k : ℕ) → start ≤ k → k < start + len → (nat_le start k && nat_lt k (start + len)) ≡ true
inside start len k low high = grind arith

before : (start len k : ℕ) → k < start → (nat_le start k && nat_lt k (start + len)) ≡ false
before start len k low = grind arith

after : (start len k : ℕ) → start + len ≤ k → (nat_le start k && nat_lt k (start + len)) ≡ false
after start len k high = grind arith

laid-length : (start mem : ℕ) (file : List ℕ) → start + length file ≤ mem
    → length (take start (replicate mem 0) ++ file ++ drop (start + length file) (replicate mem 0)) ≡ mem
laid-length start mem file h = simp (length-append, length-take, length-drop, length-replicate) (omega arith)

laid-byte : (start mem : ℕ) (file : List ℕ) → start + length file ≤ mem → (k : ℕ) → k < mem
    → slice_index (take start (replicate mem 0) ++ file ++ drop (start + length file) (replicate mem 0)) k ≡ byte_from start file k
laid-byte start mem file h k below = elim (cases_lt k start) [
  | inl low ↦ rw (before start (length file) k low) (search (rules, places))
  | inr from ↦ elim (cases_lt k (start + length file)) [
    | inl within ↦ rw (inside start (length file) k from within) (search (rules, places))
    | inr past ↦ rw (after start (length file) k past) (search (rules, places))
  ]
]

-- zeros with a file's bytes written over them are the memory of a flat file
pub flat_memory-is : (file : List ℕ) (mem : ℕ) → code_start + length file ≤ mem
    → take code_start (replicate mem 0) ++ file ++ drop (code_start + length file) (replicate mem 0) ≡ values_below mem (flat_byte file)
flat_memory-is file mem h = values_below-is _ mem (flat_byte file) (laid-length code_start mem file h) (laid-byte code_start mem file h)

-- where no fault stands the file is not empty and ends below the stacks
none_cases : (elf : Bool) (count room : ℕ)
    → None ≡ (if elf then Some fault.Elf else if (count == 0) || not (count % 4 == 0) then Some fault.Length else if nat_lt room (code_start + count) then Some fault.TooLong else None)
    → (0 < count) × (code_start + count ≤ room)
none_cases true count room e = absurd (let h : ⊥ = cc in h)
none_cases false count room e = (grind arith, grind arith)

pub flat_fault-none : (file : List ℕ) (size : Numbers) → None ≡ flat_fault file size → (0 < length file) × (code_start + length file ≤ room_of size)
flat_fault-none file size e = none_cases _ _ _ e
