-- Only proofs and inner contracts need these words.
-- What the decoder's contracts say of the rows of the table and a word.
use Rattle.std.specs.Prelude.{◌≡◌, ℕ, false, IsTrue, List, [], ◌∷◌, Result, Err}
use Rattle.a32_instr.specs.Table.{Row, fits, outcome, alu_by_num, alu_by_reg, half_imm, half_reg, mul, mla, mls, long, clz, branch_reg, load_ex, store_ex}
use Rattle.a32_instr.specs.declared.instructions.Instr.{Instr}
use Rattle.llsc_base.specs.declared.decoding.DecodeFault.{DecodeFault}
use Rattle.llsc_base.specs.declared.decoding.DecodeFault.TheVariants.{Undefined}

-- the word fits the row
abbrev pub Fits : Row → ℕ → Type 0
Fits row word = IsTrue (fits row word)

-- the answer is what the row says of the word
abbrev pub Means : Row → ℕ → Result Instr DecodeFault → Type 0
Means row word answer = answer ≡ outcome row word

-- the word fits none of the rows
abbrev pub NoneFits : List Row → ℕ → Type 0
NoneFits [] word = Unit {0}
NoneFits (row ∷ rows) word = (fits row word ≡ false) × NoneFits rows word

-- the answer is what each row that the word fits says
abbrev pub FollowsRows : List Row → ℕ → Result Instr DecodeFault → Type 0
FollowsRows [] word answer = Unit {0}
FollowsRows (row ∷ rows) word answer = (Fits row word → Means row word answer) × FollowsRows rows word answer

-- the answer is what the rows say of the word
abbrev pub Decides : List Row → ℕ → Result Instr DecodeFault → Type 0
Decides rows word answer = FollowsRows rows word answer × (NoneFits rows word → answer ≡ Err Undefined)

-- the rows that a word with 000 at bits 27:25 can fit, in the order of the table
abbrev pub rows_of_registers : List Row
rows_of_registers = alu_by_num ∷ alu_by_reg ∷ half_imm ∷ half_reg ∷ mul ∷ mla ∷ mls ∷ long ∷ clz ∷ branch_reg ∷ load_ex ∷ store_ex ∷ []
