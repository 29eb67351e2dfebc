-- The bytes of memory that a written file makes are the program's.
use Rattle.std.proofs.Common.{◌≡◌, ℕ, ◌+◌, ◌-◌, ◌*◌, ◌<◌, ◌≤◌, ◌&&◌, nat_le, nat_lt, if◌then◌else◌, Bool, true, false, List, [], ◌∷◌, ◌++◌, length, slice_index, refl, ap, ◌∙◌, arith}
use Rattle.std.proofs.lemmas.List.{get_or_append_left, get_or-append_right}
use Rattle.llsc_base.specs.Flat.{values_below}
use Rattle.llsc_base.proofs.Values.{values_below-is, length-values_below, slice_index-values_below}
use Rattle.elf32.specs.declared.units.Unit.{Unit}
use Rattle.elf32.specs.Units.{code_bytes, code_end, data_of, unit_byte}
use Rattle.elf32.specs.Written.{written_file}
use Rattle.elf32.specs.Image.{byte_at}
use Rattle.elf32.proofs.Cells.{length-code_bytes}
use Rattle.elf32.proofs.WrittenHeaders.{code_segment, data_segment, front_of, length_front, parts_are}

-- two functions that agree below a number have the same values there
same_values : (count : ℕ) (f g : ℕ → ℕ) → ((k : ℕ) → f k ≡ g k) → values_below count f ≡ values_below count g
same_values count f g h = values_below-is (values_below count f) count g (length-values_below count f)
    (λ k below. slice_index-values_below count f k below ∙ h k)

same_if : (test : Bool) (x y z w : ℕ) → (test ≡ true → x ≡ z) → y ≡ w → (if test then x else y) ≡ (if test then z else w)
same_if true x y z w h k = h refl
same_if false x y z w h k = k

from_start : (start end k : ℕ) → (nat_le start k && nat_lt k end) ≡ true → start ≤ k
from_start start end k h = grind arith

up_to_end : (start end k : ℕ) → (nat_le start k && nat_lt k end) ≡ true → k < end
up_to_end start end k h = grind arith

in_none : (start k : ℕ) → (nat_le start k && nat_lt k (start + 0)) ≡ false
in_none start k = grind arith

code_there : (front code rest : List ℕ) (at k : ℕ) → length front ≡ at → k < length code → slice_index (front ++ (code ++ rest)) (at + k) ≡ slice_index code k
code_there front code rest at k h below =
    let less : at + k - at ≡ k = omega arith in
    get_or-append_right front (code ++ rest) at (at + k) 0 h (omega arith) ∙ ap (slice_index (code ++ rest)) less ∙ get_or_append_left code rest 0 k below

rest_there : (front code rest : List ℕ) (at size k : ℕ) → length front ≡ at → length code ≡ size → slice_index (front ++ (code ++ rest)) (at + size + k) ≡ slice_index rest k
rest_there front code rest at size k h i =
    let less : at + size + k - at ≡ size + k = omega arith in
    let last : size + k - size ≡ k = omega arith in
    get_or-append_right front (code ++ rest) at (at + size + k) 0 h (omega arith) ∙ ap (slice_index (code ++ rest)) less
    ∙ get_or-append_right code rest size (size + k) 0 i (omega arith) ∙ ap (slice_index rest) last

code_byte : (unit : Unit) (addr : ℕ) → (nat_le 4096 addr && nat_lt addr (code_end unit)) ≡ true
    → slice_index (written_file unit) (116 + (addr - 4096)) ≡ slice_index (code_bytes unit.words) (addr - 4096)
code_byte unit addr h =
    let low = from_start 4096 (code_end unit) addr h in
    let high = up_to_end 4096 (code_end unit) addr h in
    ap (λ (file : List ℕ). slice_index file (116 + (addr - 4096))) (parts_are unit)
    ∙ code_there (front_of unit) (code_bytes unit.words) unit.bytes 116 (addr - 4096) (length_front unit) (omega (arith, length-code_bytes unit.words))

data_byte : (unit : Unit) (addr : ℕ)
    → slice_index (written_file unit) (116 + 4 * length unit.words + (addr - data_of unit)) ≡ slice_index unit.bytes (addr - data_of unit)
data_byte unit addr =
    ap (λ (file : List ℕ). slice_index file (116 + 4 * length unit.words + (addr - data_of unit))) (parts_are unit)
    ∙ rest_there (front_of unit) (code_bytes unit.words) unit.bytes 116 (4 * length unit.words) (addr - data_of unit) (length_front unit) (length-code_bytes unit.words)

byte_both : (unit : Unit) (addr : ℕ) → byte_at (written_file unit) (code_segment unit ∷ data_segment unit ∷ []) addr ≡ unit_byte unit addr
byte_both unit addr =
    same_if (nat_le 4096 addr && nat_lt addr (code_end unit)) _ _ _ _ (code_byte unit addr)
    (same_if (nat_le (data_of unit) addr && nat_lt addr (data_of unit + length unit.bytes)) _ _ _ _ (λ _. data_byte unit addr) refl)

byte_alone : (unit : Unit) (addr : ℕ) → length unit.bytes ≡ 0 → byte_at (written_file unit) (code_segment unit ∷ []) addr ≡ unit_byte unit addr
byte_alone unit addr none =
    same_if (nat_le 4096 addr && nat_lt addr (code_end unit)) _ _ _ _ (code_byte unit addr)
    (rw (none, in_none (data_of unit) addr) refl)

pub bytes_both : (unit : Unit) (mem : ℕ)
    → values_below mem (byte_at (written_file unit) (code_segment unit ∷ data_segment unit ∷ [])) ≡ values_below mem (unit_byte unit)
bytes_both unit mem = same_values mem _ _ (byte_both unit)

pub bytes_alone : (unit : Unit) (mem : ℕ) → length unit.bytes ≡ 0
    → values_below mem (byte_at (written_file unit) (code_segment unit ∷ [])) ≡ values_below mem (unit_byte unit)
bytes_alone unit mem none = same_values mem _ _ (λ addr. byte_alone unit addr none)
