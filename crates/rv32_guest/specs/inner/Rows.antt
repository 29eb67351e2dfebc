-- Only proofs and inner contracts need these words.
-- What the decoder's contracts say of the rows of the table and a word.
use Rattle.std.specs.Prelude.{◌≡◌, ℕ, false, IsTrue, List, [], ◌∷◌, Result, Err}
use Rattle.llsc_base.specs.declared.decoding.DecodeFault.{DecodeFault}
use Rattle.llsc_base.specs.declared.decoding.DecodeFault.TheVariants.{Undefined}
use Rattle.rv32_guest.specs.declared.instructions.RvInstr.{RvInstr}
use Rattle.rv32_guest.specs.Table.{Row, fits, outcome}

-- the word fits the row
abbrev pub Fits : Row → ℕ → Type 0
Fits row word = IsTrue (fits row word)

-- the word fits none of the rows
abbrev pub NoneFits : List Row → ℕ → Type 0
NoneFits [] word = Unit {0}
NoneFits (row ∷ rows) word = (fits row word ≡ false) × NoneFits rows word

-- the answer is what each row that the word fits says
abbrev pub FollowsRows : List Row → ℕ → Result RvInstr DecodeFault → Type 0
FollowsRows [] word answer = Unit {0}
FollowsRows (row ∷ rows) word answer = (Fits row word → answer ≡ outcome row word) × FollowsRows rows word answer

-- the answer is what these rows say of the word
abbrev pub Decides : List Row → ℕ → Result RvInstr DecodeFault → Type 0
Decides rows word answer = FollowsRows rows word answer × (NoneFits rows word → answer ≡ Err Undefined)
