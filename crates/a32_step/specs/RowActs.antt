-- What an instruction does whose operands were found beforehand.
use Rattle.std.specs.Prelude.{◌≡◌, ℕ, ◌+◌, if◌then◌else◌, Bool, true, false, List, slice_index}
use Rattle.llsc_base.specs.Images.{Program}
use Rattle.a32_instr.specs.DataProcessing.{alu_done, computed}
use Rattle.llsc_base.specs.Words.{low32, signed}
use Rattle.llsc_base.specs.declared.access.Place.{Place}
use Rattle.a32_instr.specs.Branch.{branches}
use Rattle.a32_instr.specs.LoadStore.{access_size, accessed_address, loads, part_of, stores, written_back}
use Rattle.a32_instr.specs.Shift.{moved_by, shifted_by_number}
use Rattle.a32_instr.specs.Condition.{passes}
use Rattle.a32_instr.specs.Effect.{acts, effect_of}
use Rattle.a32_instr.specs.Multiply.{multiplies, multiplies_and_adds, multiplies_long}
use Rattle.llsc_base.specs.Effects.{completes}
use Rattle.a32_instr.specs.State.{State, Effect, advanced}
use Rattle.a32_instr.specs.declared.arithmetic.Shifted.{Shifted}
use Rattle.a32_instr.specs.declared.instructions.AluOp.{AluOp}
use Rattle.a32_instr.specs.declared.instructions.AluOp.TheVariants.{And, Eor, Sub, Rsb, Add, Adc, Sbc, Rsc, Tst, Teq, Cmp, Cmn, Orr, Mov, Bic, Mvn}
use Rattle.a32_instr.specs.declared.instructions.Index.{Index}
use Rattle.a32_instr.specs.declared.instructions.Index.TheVariants.{Plain, Pre, Post}
use Rattle.a32_instr.specs.declared.instructions.Instr.{Instr}
use Rattle.a32_instr.specs.declared.instructions.LongKind.TheVariants.{Umull, Umlal, Smull, Smlal}
use Rattle.a32_instr.specs.declared.instructions.ShiftKind.{ShiftKind}
use Rattle.a32_instr.specs.declared.instructions.ShiftKind.TheVariants.{Lsl, Lsr, Asr, Ror}
use Rattle.a32_step.specs.declared.kept.Kept.{Kept}
use Rattle.a32_step.specs.declared.lowered.Lowered.{Lowered}
use Rattle.a32_step.specs.declared.rows.Carry.{Carry}
use Rattle.a32_step.specs.declared.rows.Carry.TheVariants as carry
use Rattle.a32_step.specs.declared.rows.Row.{Row}
use Rattle.a32_step.specs.declared.rows.Row.TheVariants as row

-- the first operand
abbrev pub x_in : Lowered → State → ℕ
x_in kept state = slice_index state.regs kept.n

-- the shifter's carry, by the flag
abbrev pub carry_by : Carry → Bool → Bool
carry_by carry.Old c = c
carry_by carry.Clear c = false
carry_by carry.Set c = true

-- the second operand: a number, a register as it is, or a register shifted by a number
abbrev pub number_in : Lowered → State → Shifted
number_in kept state = record { value = kept.number; carry = carry_by kept.carry state.flags.c }

abbrev pub plain_in : Lowered → State → Shifted
plain_in kept state = record { value = slice_index state.regs kept.m; carry = state.flags.c }

abbrev pub shifted_in : Lowered → State → Shifted
shifted_in kept state = shifted_by_number kept.kind (slice_index state.regs kept.m) kept.amount state.flags.c

-- a register shifted by a number that isn't 0, by this kind
abbrev pub shift_in : ShiftKind → Lowered → State → Shifted
shift_in kind kept state = moved_by kind (slice_index state.regs kept.m) kept.amount

abbrev pub data_acts : AluOp → Bool → Lowered → Shifted → State → Effect
data_acts op sets kept y state = alu_done op sets kept.d (computed op (x_in kept state) y state.flags) state

-- the first operand plus the number, or plus a register that is shifted left
abbrev pub moved_in : Lowered → State → ℕ
moved_in kept state = low32 (x_in kept state + kept.number)

abbrev pub added_in : Lowered → State → ℕ
added_in kept state = low32 (x_in kept state + (shifted_by_number Lsl (slice_index state.regs kept.m) kept.amount state.flags.c).value)

-- the PC, which is read as the address eight bytes on, plus the number
abbrev pub literal_in : Lowered → State → ℕ
literal_in kept state = low32 (low32 (state.pc + 8) + kept.number)

-- a load or a store at a moved address, or at the first operand before that is moved
abbrev pub place_in : Index → Bool → Lowered → ℕ → State → Place
place_in index byte kept moved state = record { addr = accessed_address index (x_in kept state) moved; size = access_size byte }

abbrev pub loads_at : Index → Bool → Lowered → ℕ → Program → List ℕ → State → Effect
loads_at index byte kept moved program had state =
    loads program (place_in index byte kept moved state) (written_back index kept.n moved state) kept.d had state

abbrev pub stores_at : Index → Bool → Lowered → ℕ → Program → List ℕ → State → Effect
stores_at index byte kept moved program had state =
    stores program (place_in index byte kept moved state) (written_back index kept.n moved state) (part_of byte (slice_index state.regs kept.d)) had state

abbrev pub loads_in : Index → Bool → Lowered → Program → List ℕ → State → Effect
loads_in index byte kept program had state = loads_at index byte kept (moved_in kept state) program had state

abbrev pub stores_in : Index → Bool → Lowered → Program → List ℕ → State → Effect
stores_in index byte kept program had state = stores_at index byte kept (moved_in kept state) program had state

-- a branch by the number, where a condition passes
abbrev pub branches_where : ℕ → Lowered → State → Effect
branches_where cond kept state = if passes cond state.flags then branches false (signed kept.number) state else completes (advanced state)

-- what the instruction does, where a condition passes
abbrev pub acts_where : ℕ → Lowered → Program → List ℕ → State → Effect
acts_where cond kept program had state = if passes cond state.flags then acts kept.instr program had state else completes (advanced state)

-- What a row does. One that wasn't met stands for no instruction.
abbrev pub row_acts : Row → Lowered → Program → List ℕ → State → Effect
row_acts row.Unmet kept program had state = completes state
row_acts row.Other kept program had state = acts kept.instr program had state
row_acts row.AndNumber kept program had state = data_acts And false kept (number_in kept state) state
row_acts row.AndsNumber kept program had state = data_acts And true kept (number_in kept state) state
row_acts row.EorNumber kept program had state = data_acts Eor false kept (number_in kept state) state
row_acts row.SubNumber kept program had state = data_acts Sub false kept (number_in kept state) state
row_acts row.SubsNumber kept program had state = data_acts Sub true kept (number_in kept state) state
row_acts row.RsbNumber kept program had state = data_acts Rsb false kept (number_in kept state) state
row_acts row.AddNumber kept program had state = data_acts Add false kept (number_in kept state) state
row_acts row.AddsNumber kept program had state = data_acts Add true kept (number_in kept state) state
row_acts row.AdcNumber kept program had state = data_acts Adc false kept (number_in kept state) state
row_acts row.TstNumber kept program had state = data_acts Tst true kept (number_in kept state) state
row_acts row.TeqNumber kept program had state = data_acts Teq true kept (number_in kept state) state
row_acts row.CmpNumber kept program had state = data_acts Cmp true kept (number_in kept state) state
row_acts row.CmnNumber kept program had state = data_acts Cmn true kept (number_in kept state) state
row_acts row.OrrNumber kept program had state = data_acts Orr false kept (number_in kept state) state
row_acts row.MovNumber kept program had state = data_acts Mov false kept (number_in kept state) state
row_acts row.MovsNumber kept program had state = data_acts Mov true kept (number_in kept state) state
row_acts row.BicNumber kept program had state = data_acts Bic false kept (number_in kept state) state
row_acts row.MvnNumber kept program had state = data_acts Mvn false kept (number_in kept state) state
row_acts row.AndPlain kept program had state = data_acts And false kept (plain_in kept state) state
row_acts row.AndsPlain kept program had state = data_acts And true kept (plain_in kept state) state
row_acts row.EorPlain kept program had state = data_acts Eor false kept (plain_in kept state) state
row_acts row.EorsPlain kept program had state = data_acts Eor true kept (plain_in kept state) state
row_acts row.SubPlain kept program had state = data_acts Sub false kept (plain_in kept state) state
row_acts row.SubsPlain kept program had state = data_acts Sub true kept (plain_in kept state) state
row_acts row.RsbPlain kept program had state = data_acts Rsb false kept (plain_in kept state) state
row_acts row.AddPlain kept program had state = data_acts Add false kept (plain_in kept state) state
row_acts row.AddsPlain kept program had state = data_acts Add true kept (plain_in kept state) state
row_acts row.AdcPlain kept program had state = data_acts Adc false kept (plain_in kept state) state
row_acts row.AdcsPlain kept program had state = data_acts Adc true kept (plain_in kept state) state
row_acts row.SbcPlain kept program had state = data_acts Sbc false kept (plain_in kept state) state
row_acts row.SbcsPlain kept program had state = data_acts Sbc true kept (plain_in kept state) state
row_acts row.TstPlain kept program had state = data_acts Tst true kept (plain_in kept state) state
row_acts row.TeqPlain kept program had state = data_acts Teq true kept (plain_in kept state) state
row_acts row.CmpPlain kept program had state = data_acts Cmp true kept (plain_in kept state) state
row_acts row.CmnPlain kept program had state = data_acts Cmn true kept (plain_in kept state) state
row_acts row.OrrPlain kept program had state = data_acts Orr false kept (plain_in kept state) state
row_acts row.OrrsPlain kept program had state = data_acts Orr true kept (plain_in kept state) state
row_acts row.MovPlain kept program had state = data_acts Mov false kept (plain_in kept state) state
row_acts row.MovsPlain kept program had state = data_acts Mov true kept (plain_in kept state) state
row_acts row.BicPlain kept program had state = data_acts Bic false kept (plain_in kept state) state
row_acts row.MvnPlain kept program had state = data_acts Mvn false kept (plain_in kept state) state
row_acts row.AndsShifted kept program had state = data_acts And true kept (shifted_in kept state) state
row_acts row.SubsShifted kept program had state = data_acts Sub true kept (shifted_in kept state) state
row_acts row.AddsShifted kept program had state = data_acts Add true kept (shifted_in kept state) state
row_acts row.TstShifted kept program had state = data_acts Tst true kept (shifted_in kept state) state
row_acts row.CmpShifted kept program had state = data_acts Cmp true kept (shifted_in kept state) state
row_acts row.OrrsShifted kept program had state = data_acts Orr true kept (shifted_in kept state) state
row_acts row.MovsShifted kept program had state = data_acts Mov true kept (shifted_in kept state) state
row_acts row.AndLsl kept program had state = data_acts And false kept (shift_in Lsl kept state) state
row_acts row.EorLsl kept program had state = data_acts Eor false kept (shift_in Lsl kept state) state
row_acts row.SubLsl kept program had state = data_acts Sub false kept (shift_in Lsl kept state) state
row_acts row.RsbLsl kept program had state = data_acts Rsb false kept (shift_in Lsl kept state) state
row_acts row.AddLsl kept program had state = data_acts Add false kept (shift_in Lsl kept state) state
row_acts row.OrrLsl kept program had state = data_acts Orr false kept (shift_in Lsl kept state) state
row_acts row.MovLsl kept program had state = data_acts Mov false kept (shift_in Lsl kept state) state
row_acts row.BicLsl kept program had state = data_acts Bic false kept (shift_in Lsl kept state) state
row_acts row.AndLsr kept program had state = data_acts And false kept (shift_in Lsr kept state) state
row_acts row.EorLsr kept program had state = data_acts Eor false kept (shift_in Lsr kept state) state
row_acts row.SubLsr kept program had state = data_acts Sub false kept (shift_in Lsr kept state) state
row_acts row.RsbLsr kept program had state = data_acts Rsb false kept (shift_in Lsr kept state) state
row_acts row.AddLsr kept program had state = data_acts Add false kept (shift_in Lsr kept state) state
row_acts row.OrrLsr kept program had state = data_acts Orr false kept (shift_in Lsr kept state) state
row_acts row.MovLsr kept program had state = data_acts Mov false kept (shift_in Lsr kept state) state
row_acts row.BicLsr kept program had state = data_acts Bic false kept (shift_in Lsr kept state) state
row_acts row.AndAsr kept program had state = data_acts And false kept (shift_in Asr kept state) state
row_acts row.EorAsr kept program had state = data_acts Eor false kept (shift_in Asr kept state) state
row_acts row.SubAsr kept program had state = data_acts Sub false kept (shift_in Asr kept state) state
row_acts row.RsbAsr kept program had state = data_acts Rsb false kept (shift_in Asr kept state) state
row_acts row.AddAsr kept program had state = data_acts Add false kept (shift_in Asr kept state) state
row_acts row.OrrAsr kept program had state = data_acts Orr false kept (shift_in Asr kept state) state
row_acts row.MovAsr kept program had state = data_acts Mov false kept (shift_in Asr kept state) state
row_acts row.BicAsr kept program had state = data_acts Bic false kept (shift_in Asr kept state) state
row_acts row.AndRor kept program had state = data_acts And false kept (shift_in Ror kept state) state
row_acts row.EorRor kept program had state = data_acts Eor false kept (shift_in Ror kept state) state
row_acts row.SubRor kept program had state = data_acts Sub false kept (shift_in Ror kept state) state
row_acts row.RsbRor kept program had state = data_acts Rsb false kept (shift_in Ror kept state) state
row_acts row.AddRor kept program had state = data_acts Add false kept (shift_in Ror kept state) state
row_acts row.OrrRor kept program had state = data_acts Orr false kept (shift_in Ror kept state) state
row_acts row.MovRor kept program had state = data_acts Mov false kept (shift_in Ror kept state) state
row_acts row.BicRor kept program had state = data_acts Bic false kept (shift_in Ror kept state) state
row_acts row.Ldr kept program had state = loads_in Plain false kept program had state
row_acts row.LdrPre kept program had state = loads_in Pre false kept program had state
row_acts row.LdrPost kept program had state = loads_in Post false kept program had state
row_acts row.Ldrb kept program had state = loads_in Plain true kept program had state
row_acts row.LdrbPre kept program had state = loads_in Pre true kept program had state
row_acts row.LdrbPost kept program had state = loads_in Post true kept program had state
row_acts row.Str kept program had state = stores_in Plain false kept program had state
row_acts row.StrPre kept program had state = stores_in Pre false kept program had state
row_acts row.StrPost kept program had state = stores_in Post false kept program had state
row_acts row.Strb kept program had state = stores_in Plain true kept program had state
row_acts row.StrbPre kept program had state = stores_in Pre true kept program had state
row_acts row.StrbPost kept program had state = stores_in Post true kept program had state
row_acts row.LdrLsl kept program had state = loads_at Plain false kept (added_in kept state) program had state
row_acts row.LdrbLsl kept program had state = loads_at Plain true kept (added_in kept state) program had state
row_acts row.StrLsl kept program had state = stores_at Plain false kept (added_in kept state) program had state
row_acts row.StrbLsl kept program had state = stores_at Plain true kept (added_in kept state) program had state
row_acts row.LdrLiteral kept program had state = loads_at Plain false kept (literal_in kept state) program had state
row_acts row.Mul kept program had state = multiplies false kept.d kept.n kept.m state
row_acts row.Mla kept program had state = multiplies_and_adds false kept.d kept.n kept.m kept.a state
row_acts row.Umull kept program had state = multiplies_long Umull false kept.d kept.a kept.n kept.m state
row_acts row.Umlal kept program had state = multiplies_long Umlal false kept.d kept.a kept.n kept.m state
row_acts row.Smull kept program had state = multiplies_long Smull false kept.d kept.a kept.n kept.m state
row_acts row.Smlal kept program had state = multiplies_long Smlal false kept.d kept.a kept.n kept.m state
row_acts row.Branch kept program had state = branches false (signed kept.number) state
row_acts row.BranchLink kept program had state = branches true (signed kept.number) state
row_acts row.BranchEq kept program had state = branches_where 0 kept state
row_acts row.BranchNe kept program had state = branches_where 1 kept state
row_acts row.BranchCs kept program had state = branches_where 2 kept state
row_acts row.BranchCc kept program had state = branches_where 3 kept state
row_acts row.BranchMi kept program had state = branches_where 4 kept state
row_acts row.BranchPl kept program had state = branches_where 5 kept state
row_acts row.BranchVs kept program had state = branches_where 6 kept state
row_acts row.BranchVc kept program had state = branches_where 7 kept state
row_acts row.BranchHi kept program had state = branches_where 8 kept state
row_acts row.BranchLs kept program had state = branches_where 9 kept state
row_acts row.BranchGe kept program had state = branches_where 10 kept state
row_acts row.BranchLt kept program had state = branches_where 11 kept state
row_acts row.BranchGt kept program had state = branches_where 12 kept state
row_acts row.BranchLe kept program had state = branches_where 13 kept state
row_acts row.IfEq kept program had state = acts_where 0 kept program had state
row_acts row.IfNe kept program had state = acts_where 1 kept program had state
row_acts row.IfCs kept program had state = acts_where 2 kept program had state
row_acts row.IfCc kept program had state = acts_where 3 kept program had state
row_acts row.IfMi kept program had state = acts_where 4 kept program had state
row_acts row.IfPl kept program had state = acts_where 5 kept program had state
row_acts row.IfVs kept program had state = acts_where 6 kept program had state
row_acts row.IfVc kept program had state = acts_where 7 kept program had state
row_acts row.IfHi kept program had state = acts_where 8 kept program had state
row_acts row.IfLs kept program had state = acts_where 9 kept program had state
row_acts row.IfGe kept program had state = acts_where 10 kept program had state
row_acts row.IfLt kept program had state = acts_where 11 kept program had state
row_acts row.IfGt kept program had state = acts_where 12 kept program had state
row_acts row.IfLe kept program had state = acts_where 13 kept program had state

-- a row stands for an instruction that was met
abbrev pub is_met_row : Row → Bool
is_met_row row.Unmet = false
is_met_row _ = true

-- a row does what it does whatever the condition
abbrev pub is_whole : Row → Bool
is_whole row.Unmet = false
is_whole row.IfEq = false
is_whole row.IfNe = false
is_whole row.IfCs = false
is_whole row.IfCc = false
is_whole row.IfMi = false
is_whole row.IfPl = false
is_whole row.IfVs = false
is_whole row.IfVc = false
is_whole row.IfHi = false
is_whole row.IfLs = false
is_whole row.IfGe = false
is_whole row.IfLt = false
is_whole row.IfGt = false
is_whole row.IfLe = false
is_whole _ = true

-- it is made of this instruction, and its row does what that does where its condition passes
pub record IsLoweredOf (instr : Instr) (kept : Lowered) : Type 0 where
  pub instr_is : kept.instr ≡ instr
  pub whole : is_whole kept.row ≡ true
  pub does : (program : Program) (had : List ℕ) (state : State) → row_acts kept.row kept program had state ≡ acts kept.instr program had state

-- it is kept of this instruction, and its row does what that does, with its condition
pub record IsKeptOf (instr : Instr) (kept : Kept) : Type 0 where
  pub lowered : IsLoweredOf instr kept.lowered
  pub does : (program : Program) (had : List ℕ) (state : State) → row_acts kept.row kept.lowered program had state ≡ effect_of instr program had state
