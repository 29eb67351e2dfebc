-- What an instruction does, from its start state and the replies to its accesses so far.
use Rattle.std.specs.Prelude.{ℕ, if◌then◌else◌, List}
use Rattle.llsc_base.specs.Images.{Program}
use Rattle.a32_instr.specs.declared.instructions.Instr.{Instr}
use Rattle.a32_instr.specs.declared.instructions.Instr.TheVariants.{Alu, Movw, Movt, Nop, Yield, Mul, Mla, Mls, Long, Clz, Extend, Rev, Word, Half, Block, Branch, BranchReg, Svc, LoadEx, StoreEx, Clrex, Barrier}
use Rattle.a32_instr.specs.Condition.{always, passes}
use Rattle.a32_instr.specs.State.{State, Effect, advanced}
use Rattle.llsc_base.specs.Effects.{completes}
use Rattle.a32_instr.specs.DataProcessing.{alu}
use Rattle.a32_instr.specs.Multiply.{multiplies, multiplies_and_adds, multiplies_and_subtracts, multiplies_long}
use Rattle.a32_instr.specs.Moves.{moves_wide, moves_top, counts_zeros, reverses, extends}
use Rattle.a32_instr.specs.LoadStore.{word, half}
use Rattle.a32_instr.specs.Block.{block}
use Rattle.a32_instr.specs.Branch.{branches, branches_by_register, supervisor_call}
use Rattle.a32_instr.specs.Exclusive.{load_exclusive, store_exclusive, clear_exclusive}

-- the condition of an instruction; one that has none is carried out always
abbrev pub condition_of : Instr → ℕ
condition_of (Alu cond op s rd rn operand) = cond
condition_of (Movw cond rd imm) = cond
condition_of (Movt cond rd imm) = cond
condition_of (Nop cond) = cond
condition_of (Yield cond) = cond
condition_of (Mul cond s rd rn rm) = cond
condition_of (Mla cond s rd rn rm ra) = cond
condition_of (Mls cond rd rn rm ra) = cond
condition_of (Long cond kind s lo hi rn rm) = cond
condition_of (Clz cond rd rm) = cond
condition_of (Extend cond unsigned half rd rm turn) = cond
condition_of (Rev cond rd rm) = cond
condition_of (Word cond load byte index rn rt offset) = cond
condition_of (Half cond kind index rn rt offset) = cond
condition_of (Block cond load before up wback rn list) = cond
condition_of (Branch cond link words) = cond
condition_of (BranchReg cond link rm) = cond
condition_of (Svc cond imm) = cond
condition_of (LoadEx cond size rn rt) = cond
condition_of (StoreEx cond size rn rd rt) = cond
condition_of Clrex = always
condition_of (Barrier kind option) = always

-- what an instruction does whose condition has passed
abbrev pub acts : Instr → Program → List ℕ → State → Effect
acts (Alu cond op s rd rn operand) program replies state = alu op s rd rn operand state
acts (Movw cond rd imm) program replies state = moves_wide rd imm state
acts (Movt cond rd imm) program replies state = moves_top rd imm state
acts (Nop cond) program replies state = completes (advanced state)
acts (Yield cond) program replies state = completes (advanced state)
acts (Mul cond s rd rn rm) program replies state = multiplies s rd rn rm state
acts (Mla cond s rd rn rm ra) program replies state = multiplies_and_adds s rd rn rm ra state
acts (Mls cond rd rn rm ra) program replies state = multiplies_and_subtracts rd rn rm ra state
acts (Long cond kind s lo hi rn rm) program replies state = multiplies_long kind s lo hi rn rm state
acts (Clz cond rd rm) program replies state = counts_zeros rd rm state
acts (Extend cond unsigned half rd rm turn) program replies state = extends unsigned half rd rm turn state
acts (Rev cond rd rm) program replies state = reverses rd rm state
acts (Word cond load byte index rn rt offset) program replies state = word program load byte index rn rt offset replies state
acts (Half cond kind index rn rt offset) program replies state = half program kind index rn rt offset replies state
acts (Block cond load before up wback rn list) program replies state = block program load before up wback rn list replies state
acts (Branch cond link words) program replies state = branches link words state
acts (BranchReg cond link rm) program replies state = branches_by_register link rm state
acts (Svc cond imm) program replies state = supervisor_call imm state
acts (LoadEx cond size rn rt) program replies state = load_exclusive size rn rt program replies state
acts (StoreEx cond size rn rd rt) program replies state = store_exclusive size rn rd rt program replies state
acts Clrex program replies state = clear_exclusive replies state
acts (Barrier kind option) program replies state = completes (advanced state)

-- What an instruction does with all of its replies so far: one whose condition fails is complete and does nothing, however
-- many replies there are (DDI 0406C A8.3.1).
abbrev pub effect_of : Instr → Program → List ℕ → State → Effect
effect_of instr program replies state =
    if passes (condition_of instr) state.flags then acts instr program replies state else completes (advanced state)
