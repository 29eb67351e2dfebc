-- The registers of a list, from each register up.
use Rattle.std.specs.Prelude.{◌≡◌, ℕ, zero, suc, ◌+◌, ◌-◌, ◌≤◌, if◌then◌else◌, List, [], ◌∷◌, length, slice_index}
use Rattle.a32_instr.specs.Block.{is_listed, registers_of, count_of, below}

-- the registers of a list among the k highest
unfoldable pub highest : ℕ → ℕ → List ℕ
highest list zero = []
highest list (suc k) = if is_listed list (15 - k) then (15 - k) ∷ highest list k else highest list k

-- so many registers of a list lie below r, and those from r up are left
pub record AreLeft (list r number : ℕ) : Type 0 where
  pub few : number ≤ r
  pub passed : number ≡ below list r
  pub same : (i : ℕ) → slice_index (highest list (16 - r)) i ≡ slice_index (registers_of list) (number + i)
  pub count : number + length (highest list (16 - r)) ≡ count_of list
