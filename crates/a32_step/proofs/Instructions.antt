-- Whatever an instruction asks for is sound, and each stop that it makes is an instruction's.
use Rattle.std.proofs.Common.{◌≡◌, ℕ, ◌+◌, ◌*◌, ◌^◌, ◌%◌, ◌<◌, ◌==◌, if◌then◌else◌, Bool, true, false, Option, Some, None, List, [], ◌∷◌, slice_index, refl, arith}
use Rattle.std.specs.Int.{w32, leading_zeros}
use Rattle.llsc_base.specs.Memory.{size_bytes}
use Rattle.llsc_base.specs.Images.{Program, bar_of}
use Rattle.llsc_base.specs.declared.access.Bar.{Bar}
use Rattle.llsc_base.specs.declared.access.Place.{Place}
use Rattle.llsc_base.specs.declared.access.Size.{Size}
use Rattle.llsc_base.specs.declared.access.Size.TheVariants.{B1, B2, B4, B8}
use Rattle.llsc_base.specs.declared.outside.Ask.{Ask}
use Rattle.llsc_base.specs.declared.outside.Ask.TheVariants as ask
use Rattle.a32_instr.specs.declared.instructions.Instr.{Instr}
use Rattle.a32_instr.specs.declared.instructions.Instr.TheVariants.{Alu, Movw, Movt, Nop, Yield, Mul, Mla, Mls, Long, Clz, Extend, Rev, Word, Half, Block, Branch, BranchReg, Svc, LoadEx, StoreEx, Clrex, Barrier}
use Rattle.a32_instr.specs.declared.instructions.AluOp.{AluOp}
use Rattle.a32_instr.specs.declared.instructions.HalfKind.{HalfKind}
use Rattle.a32_instr.specs.declared.instructions.HalfKind.TheVariants.{Strh, Ldrh, Ldrsb, Ldrsh}
use Rattle.a32_instr.specs.declared.arithmetic.Computed.{Computed}
use Rattle.a32_instr.specs.State.{State, register, advanced, writes}
use Rattle.llsc_base.specs.Effects.{completes, loaded_part, asks_unless}
use Rattle.llsc_base.specs.Words.{low32}
use Rattle.llsc_base.specs.inner.Words.{AreWords}
use Rattle.a32_instr.specs.Fields.{is_compare}
use Rattle.a32_instr.specs.Shift.{top_bit, rotated_right}
use Rattle.a32_instr.specs.DataProcessing.{operand_of, computed, with_flags, alu_done}
use Rattle.a32_instr.specs.Multiply.{multiplied, product_flags, less_product}
use Rattle.a32_instr.specs.Moves.{with_top, reversed, extended, width_of}
use Rattle.a32_instr.specs.LoadStore.{loads, loads_half, stores, accesses, half_accesses, half_size, half_value, accessed_address, moved_address, written_back, access_size, part_of}
use Rattle.a32_instr.specs.Block.{block_back, block_size, lowest_address}
use Rattle.a32_instr.specs.Branch.{linked}
use Rattle.a32_instr.specs.Exclusive.{next_register, place_at, stored_part, loads_exclusive, stores_exclusive}
use Rattle.a32_instr.specs.Effect.{acts}
use Rattle.guest_core.specs.Machine.{PassesTests, ValueFits}
use Rattle.a32_step.proofs.Blocks.{block_stands}
use Rattle.a32_step.proofs.Effects.{Stands, barred_own, chosen, jumps_stands, writes_stands}

-- ---- the ends of instructions

module _ (words : Type 0) (program : Program) (replies : List ℕ) where
  alu_stands : (op : AluOp) (sets : Bool) (rd : ℕ) (result : Computed) (state : State) → Stands words program replies (alu_done op sets rd result state)
  alu_stands op sets rd result state =
      chosen words program replies (is_compare op) (completes (advanced (with_flags sets result.flags state))) (writes (with_flags sets result.flags state) rd result.value)
      tt (writes_stands words program replies (with_flags sets result.flags state) rd result.value)

  product_stands : (sets : Bool) (rd value : ℕ) (state : State) → Stands words program replies (multiplied sets rd value state)
  product_stands sets rd value state = writes_stands words program replies (with_flags sets (product_flags (top_bit value) value state.flags) state) rd value

-- ---- one access: it is asked for before any reply

module _ (words : Type 0) (program : Program) where
  unless_stands : (asked : Ask) (found : Option Bar) (addr : ℕ) → (words → ValueFits asked) → (found ≡ None → PassesTests program asked)
      → Stands words program [] (asks_unless found addr asked)
  unless_stands asked None addr fit passed = record { passes = passed refl; room = omega arith; fits = fit }
  unless_stands asked (Some bar) addr fit passed = barred_own bar addr

  loads_stand : (place : Place) (back : State) (rt : ℕ) (replies : List ℕ) (state : State) → Stands words program replies (loads program place back rt replies state)
  loads_stand place back rt [] state = unless_stands (ask.Load place) (bar_of program place false) place.addr (λ are. tt) (λ none. none)
  loads_stand place back rt (value ∷ values) state = writes_stands words program (value ∷ values) back rt (loaded_part place.size value)

  stores_stand : (place : Place) (back : State) (value : ℕ) (replies : List ℕ) (state : State) → (words → value < 256 ^ size_bytes place.size)
      → Stands words program replies (stores program place back value replies state)
  stores_stand place back value [] state fit = unless_stands (ask.Store place value) (bar_of program place true) place.addr fit (λ none. none)
  stores_stand place back value (reply ∷ replies) state fit = tt

  loads_half_stand : (kind : HalfKind) (place : Place) (back : State) (rt : ℕ) (replies : List ℕ) (state : State) → Stands words program replies (loads_half kind program place back rt replies state)
  loads_half_stand kind place back rt [] state = unless_stands (ask.Load place) (bar_of program place false) place.addr (λ are. tt) (λ none. none)
  loads_half_stand kind place back rt (value ∷ values) state = writes_stands words program (value ∷ values) back rt (half_value kind (loaded_part place.size value))

  half_stands : (kind : HalfKind) (addr rt : ℕ) (back : State) (replies : List ℕ) (state : State)
      → Stands words program replies (half_accesses kind program (record { addr = addr; size = half_size kind }) back rt replies state)
  half_stands Strh addr rt back replies state = stores_stand (record { addr = addr; size = B2 }) back (register state rt % 2 ^ 16) replies state (λ are. omega arith)
  half_stands Ldrh addr rt back replies state = loads_half_stand Ldrh (record { addr = addr; size = B2 }) back rt replies state
  half_stands Ldrsb addr rt back replies state = loads_half_stand Ldrsb (record { addr = addr; size = B1 }) back rt replies state
  half_stands Ldrsh addr rt back replies state = loads_half_stand Ldrsh (record { addr = addr; size = B2 }) back rt replies state

  exclusive_load_stands : (size : Size) (place : Place) (rt : ℕ) (replies : List ℕ) (state : State) → Stands words program replies (loads_exclusive size program place rt replies state)
  exclusive_load_stands size place rt [] state = unless_stands (ask.LoadEx place) (bar_of program place false) place.addr (λ are. tt) (λ none. none)
  exclusive_load_stands size place rt (value ∷ values) state = tt

  exclusive_store_stands : (place : Place) (value rd : ℕ) (replies : List ℕ) (state : State) → (words → value < 256 ^ size_bytes place.size)
      → Stands words program replies (stores_exclusive program place value rd replies state)
  exclusive_store_stands place value rd [] state fit = unless_stands (ask.StoreEx place value) (bar_of program place true) place.addr fit (λ none. none)
  exclusive_store_stands place value rd (reply ∷ replies) state fit = tt

-- ---- what registers have fits

choose_below : (b : Bool) (x y : ℕ) → x < 2 ^ 32 → y < 2 ^ 32 → (if b then x else y) < 2 ^ 32
choose_below true x y p q = p
choose_below false x y p q = q

pub register_fits : (state : State) → AreWords state.regs → (r : ℕ) → register state r < 2 ^ 32
register_fits state words r = choose_below (r == 15) (low32 (state.pc + 8)) (slice_index state.regs r) (omega arith) (words r)

part_fits : (byte : Bool) (value : ℕ) → value < 2 ^ 32 → part_of byte value < 256 ^ size_bytes (access_size byte)
part_fits true value small = omega arith
part_fits false value small = small

-- what a store-exclusive stores fits its place
pub stored_part_fits : (size : Size) (rt : ℕ) (state : State) → AreWords state.regs → stored_part size rt state < 256 ^ size_bytes size
stored_part_fits B1 rt state words = omega arith
stored_part_fits B2 rt state words = omega arith
stored_part_fits B4 rt state words = register_fits state words rt
stored_part_fits B8 rt state words =
    let low : register state rt < 2 ^ 32 = register_fits state words rt in
    let high : register state (next_register rt) < 2 ^ 32 = register_fits state words (next_register rt) in
    omega arith

-- ---- instructions

module _ (program : Program) (replies : List ℕ) (state : State) where
  abbrev words : Type 0
  words = AreWords state.regs

  word_stands : (load byte : Bool) (addr rt : ℕ) (back : State) → Stands words program replies (accesses program load byte (record { addr = addr; size = access_size byte }) back rt replies state)
  word_stands true byte addr rt back = loads_stand words program (record { addr = addr; size = access_size byte }) back rt replies state
  word_stands false byte addr rt back =
      stores_stand words program (record { addr = addr; size = access_size byte }) back (part_of byte (register state rt)) replies state
      (λ are. part_fits byte (register state rt) (register_fits state are rt))

  pub acts_stand : (instr : Instr) → Stands words program replies (acts instr program replies state)
  acts_stand (Alu cond op s rd rn operand) = alu_stands words program replies op s rd (computed op (register state rn) (operand_of operand state) state.flags) state
  acts_stand (Movw cond rd imm) = writes_stands words program replies state rd imm
  acts_stand (Movt cond rd imm) = writes_stands words program replies state rd (with_top (register state rd) imm)
  acts_stand (Nop cond) = tt
  acts_stand (Yield cond) = tt
  acts_stand (Mul cond s rd rn rm) = product_stands words program replies s rd (low32 (register state rn * register state rm)) state
  acts_stand (Mla cond s rd rn rm ra) = product_stands words program replies s rd (low32 (register state rn * register state rm + register state ra)) state
  acts_stand (Mls cond rd rn rm ra) = writes_stands words program replies state rd (less_product (register state ra) (register state rn) (register state rm))
  acts_stand (Long cond kind s lo hi rn rm) = tt
  acts_stand (Clz cond rd rm) = writes_stands words program replies state rd (leading_zeros w32 (register state rm))
  acts_stand (Extend cond unsigned half rd rm turn) = writes_stands words program replies state rd (extended unsigned (width_of half) (rotated_right (register state rm) (8 * turn)))
  acts_stand (Rev cond rd rm) = writes_stands words program replies state rd (reversed (register state rm))
  acts_stand (Word cond load byte index rn rt offset) =
      word_stands load byte (accessed_address index (register state rn) (moved_address rn offset state)) rt (written_back index rn (moved_address rn offset state) state)
  acts_stand (Half cond kind index rn rt offset) =
      half_stands words program kind (accessed_address index (register state rn) (moved_address rn offset state)) rt (written_back index rn (moved_address rn offset state) state) replies state
  acts_stand (Block cond load before up wback rn list) =
      block_stands words program replies load (lowest_address up before (register state rn) (block_size list)) list (block_back wback up rn (block_size list) state) state (register_fits state)
  acts_stand (Branch cond link distance) = tt
  acts_stand (BranchReg cond link rm) = jumps_stands words program replies (linked link state) (register state rm)
  acts_stand (Svc cond imm) = tt
  acts_stand (LoadEx cond size rn rt) = exclusive_load_stands words program size (place_at size rn state) rt replies state
  acts_stand (StoreEx cond size rn rd rt) =
      exclusive_store_stands words program (place_at size rn state) (stored_part size rt state) rd replies state (stored_part_fits size rt state)
  acts_stand (Barrier kind option) = tt
  acts_stand Clrex = clears replies
    where
      clears : (replies : List ℕ) → Stands words program replies (acts Clrex program replies state)
      clears [] = record { passes = tt; room = omega arith; fits = λ are. tt }
      clears (reply ∷ replies) = tt
