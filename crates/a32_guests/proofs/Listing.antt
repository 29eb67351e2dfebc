-- The instructions of a program in its image, for any assembled program: each stands where its word does.
use Rattle.std.proofs.Common.{◌≡◌, ℕ, zero, suc, ◌+◌, ◌*◌, ◌^◌, ◌<◌, ◌≤◌, List, [], ◌∷◌, Some, length, slice_get, slice_index, Ok, ap, ◌∙◌, arith}
use Rattle.llsc_base.specs.Sizes.{Numbers}
use Rattle.a32_instr.specs.Table.{meaning, table}
use Rattle.a32_instr.specs.declared.instructions.Instr.{Instr}
use Rattle.guest_core.specs.Fetched.{decoded, instr_of_word}
use Rattle.a32_step.specs.Machine.{instr_at}
use Rattle.elf32.specs.Units.{unit_image}
use Rattle.elf32.specs.declared.units.Unit.{Unit}
use Rattle.elf32.proofs.Fetched.{fetched}

-- words that mean these instructions, one by one
pub data Mean : List ℕ → List Instr → Type 0 where
  none : Mean [] []
  word : (code : ℕ) (instr : Instr) (words : List ℕ) (instrs : List Instr) → code < 2 ^ 32 → meaning table code ≡ Ok instr
      → Mean words instrs → Mean (code ∷ words) (instr ∷ instrs)

-- one of these words
record IsListed (words : List ℕ) (k : ℕ) (instr : Instr) : Type 0 where
  known : k < length words
  small : slice_index words k < 2 ^ 32
  means : meaning table (slice_index words k) ≡ Ok instr

listed : (words : List ℕ) (instrs : List Instr) → Mean words instrs → (k : ℕ) (instr : Instr) → slice_get instrs k ≡ Some instr
    → IsListed words k instr
listed _ _ none k instr there = absurd (let f : ⊥ = cc in f)
listed _ _ (word code first words instrs small means rest) zero instr there =
    let same : first ≡ instr = cc in
    record { known = omega arith; small = small; means = means ∙ ap Ok same }
listed _ _ (word code first words instrs small means rest) (suc k) instr there =
    let later = listed words instrs rest k instr there in
    record { known = let known = later.known in omega (arith, known); small = later.small; means = later.means }

-- The instruction at the k-th word of the code.
pub instr_listed : (unit : Unit) (size : Numbers) (instrs : List Instr) → Mean unit.words instrs → 4096 + 4 * length unit.words ≤ size.mem
    → (k : ℕ) (instr : Instr) → slice_get instrs k ≡ Some instr → instr_at (unit_image unit size) (4096 + 4 * k) ≡ Ok instr
instr_listed unit size instrs mean room k instr there =
    let is = listed unit.words instrs mean k instr there in
    ap (instr_of_word (meaning table) (4096 + 4 * k)) (fetched unit size k is.known room is.small) ∙ ap (decoded (4096 + 4 * k)) is.means
