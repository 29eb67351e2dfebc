-- What is kept of a program, page by page, each in a slot of 256 instructions and one that never is met.
use Rattle.std.specs.Prelude.{◌≡◌, ◌+◌, ◌*◌, ◌/◌, ◌%◌, ◌<◌, ℕ, Bool, true, List, Result, Ok, length, slice_index, slice_index_or}
use Rattle.llsc_base.specs.Images.{Program}
use Rattle.llsc_base.specs.declared.outside.Stop.{Stop}

module _ {I R : Type 0} (is_met : R → Bool) (found : Program → ℕ → Result I Stop) (instr_of : R → I) (is_right : R → Type 0) where
  -- it is the instruction at the address of its place, by the number of the page that its slot has
  pub record IsInstrAt (program : Program) (numbers : List ℕ) (at : ℕ) (kept : R) : Type 0 where
    pub inside : at % 257 < 256
    pub means : found program (1024 * slice_index numbers (at / 257) + 4 * (at % 257)) ≡ Ok (instr_of kept)
    pub right : is_right kept

  -- so is each that was met
  abbrev pub AreRightIn : Program → List ℕ → List R → Type 0
  AreRightIn program numbers all = (at : ℕ) (d : R) → at < length all → is_met (slice_index_or all at d) ≡ true → IsInstrAt program numbers at (slice_index_or all at d)
