-- Only proofs and inner contracts need these words.
-- Which row stands for an instruction.
use Rattle.std.specs.Prelude.{◌≡◌, ℕ, if◌then◌else◌, Bool, true, false, List}
use Rattle.llsc_base.specs.Images.{Program}
use Rattle.a32_instr.specs.Effect.{acts}
use Rattle.a32_instr.specs.Multiply.{multiplies_long}
use Rattle.a32_instr.specs.State.{State, Effect}
use Rattle.a32_instr.specs.declared.arithmetic.Shifted.{Shifted}
use Rattle.a32_instr.specs.declared.instructions.AluOp.{AluOp}
use Rattle.a32_instr.specs.declared.instructions.Index.{Index}
use Rattle.a32_instr.specs.declared.instructions.Index.TheVariants.{Plain}
use Rattle.a32_instr.specs.declared.instructions.LongKind.{LongKind}
use Rattle.a32_instr.specs.declared.instructions.ShiftKind.{ShiftKind}
use Rattle.a32_step.specs.RowActs.{acts_where, added_in, branches_where, data_acts, is_whole, loads_at, loads_in, row_acts, shifted_in, stores_at, stores_in}
use Rattle.a32_step.specs.declared.lowered.Lowered.{Lowered}
use Rattle.a32_step.specs.declared.rows.Row.{Row}

-- a row is data processing with this second operand
abbrev pub DoesData : AluOp → Bool → (Lowered → State → Shifted) → Row → Type 0
DoesData op sets y row = (kept : Lowered) (program : Program) (had : List ℕ) (state : State) → row_acts row kept program had state ≡ data_acts op sets kept (y kept state) state

-- a row is data processing with a register shifted by this kind and this number
abbrev pub DoesShift : AluOp → Bool → ShiftKind → ℕ → Row → Type 0
DoesShift op sets kind amount row = (kept : Lowered) → kept.kind ≡ kind → kept.amount ≡ amount → (program : Program) (had : List ℕ) (state : State)
    → row_acts row kept program had state ≡ data_acts op sets kept (shifted_in kept state) state

-- a row is a load or a store of a word or a byte
abbrev pub accesses_in : Bool → Bool → Index → Lowered → Program → List ℕ → State → Effect
accesses_in load byte index kept program had state =
    if load then loads_in index byte kept program had state else stores_in index byte kept program had state

abbrev pub DoesAccess : Bool → Bool → Index → Row → Type 0
DoesAccess load byte index row = (kept : Lowered) (program : Program) (had : List ℕ) (state : State) → row_acts row kept program had state ≡ accesses_in load byte index kept program had state

-- a row is a branch under a condition
abbrev pub DoesBranch : ℕ → Row → Type 0
DoesBranch cond row = (kept : Lowered) (program : Program) (had : List ℕ) (state : State) → row_acts row kept program had state ≡ branches_where cond kept state

-- a row tests no condition
abbrev pub IsWhole : Row → Type 0
IsWhole row = is_whole row ≡ true

-- a row does what another does where a condition passes, of an instruction that does what the other does
abbrev pub DoesUnder : ℕ → Row → Row → Type 0
DoesUnder cond row under = (kept : Lowered) (program : Program) (had : List ℕ) (state : State) → row_acts row kept program had state ≡ acts kept.instr program had state
    → row_acts under kept program had state ≡ acts_where cond kept program had state

-- a row is what the instruction does under a condition
abbrev pub DoesWhere : ℕ → Row → Type 0
DoesWhere cond row = (kept : Lowered) (program : Program) (had : List ℕ) (state : State) → row_acts row kept program had state ≡ acts_where cond kept program had state

-- a row is a load or a store of a word or a byte at a register plus one that is shifted left
abbrev pub added_accesses : Bool → Bool → Lowered → Program → List ℕ → State → Effect
added_accesses load byte kept program had state =
    if load then loads_at Plain byte kept (added_in kept state) program had state else stores_at Plain byte kept (added_in kept state) program had state

abbrev pub DoesAdded : Bool → Bool → Row → Type 0
DoesAdded load byte row = (kept : Lowered) (program : Program) (had : List ℕ) (state : State) → row_acts row kept program had state ≡ added_accesses load byte kept program had state

-- a row is a product of 64 bits that sets no flags
abbrev pub DoesLong : LongKind → Row → Type 0
DoesLong kind row = (kept : Lowered) (program : Program) (had : List ℕ) (state : State) → row_acts row kept program had state ≡ multiplies_long kind false kept.d kept.a kept.n kept.m state
