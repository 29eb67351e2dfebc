-- Instructions that the derived `==` finds equal are the same: their fields are, one after the other.
use Rattle.std.proofs.Common.{rules, ◌≡◌, ◌==◌, Bool, true, false, ◌&&◌, refl}
use Rattle.std.proofs.lemmas.Bool.{both_ways, eqb-true}
use Rattle.std.specs.Bool.{beq}
use Rattle.a32_instr.specs.declared.instructions.AluOp.{AluOp}
use Rattle.a32_instr.specs.contracts.instructions.AluOpPartialEq.TheImpl as op_eq
use Rattle.a32_instr.specs.declared.instructions.Operand2.{Operand2}
use Rattle.a32_instr.specs.contracts.instructions.Operand2PartialEq.TheImpl as operand_eq
use Rattle.a32_instr.specs.declared.instructions.LongKind.{LongKind}
use Rattle.a32_instr.specs.contracts.instructions.LongKindPartialEq.TheImpl as long_eq
use Rattle.a32_instr.specs.declared.instructions.Index.{Index}
use Rattle.a32_instr.specs.contracts.instructions.IndexPartialEq.TheImpl as index_eq
use Rattle.a32_instr.specs.declared.instructions.Offset.{Offset}
use Rattle.a32_instr.specs.contracts.instructions.OffsetPartialEq.TheImpl as offset_eq
use Rattle.a32_instr.specs.declared.instructions.HalfKind.{HalfKind}
use Rattle.a32_instr.specs.contracts.instructions.HalfKindPartialEq.TheImpl as half_eq
use Rattle.a32_instr.specs.declared.instructions.BarrierKind.{BarrierKind}
use Rattle.a32_instr.specs.contracts.instructions.BarrierKindPartialEq.TheImpl as barrier_eq
use Rattle.llsc_base.specs.declared.access.Size.{Size}
use Rattle.llsc_base.specs.contracts.access.SizePartialEq.TheImpl as size_eq
use Rattle.a32_instr.specs.declared.instructions.Instr.{Instr}
use Rattle.a32_instr.specs.declared.instructions.Instr.TheVariants.{Alu, Movw, Movt, Nop, Yield, Mul, Mla, Mls, Long, Clz, Extend, Rev, Word, Half, Block, Branch, BranchReg, Svc, LoadEx, StoreEx, Clrex, Barrier}
use Rattle.a32_instr.specs.contracts.instructions.InstrPartialEq.TheImpl as instr_eq
use Rattle.a32_instr.specs.contracts.instructions.InstrEq.TheImpl.Laws as eq_laws

same_op : (it one : AluOp) → op_eq.eq-value.it it one ≡ true → it ≡ one
same_op it one e = search rules

same_operand : (it one : Operand2) → operand_eq.eq-value.it it one ≡ true → it ≡ one
same_operand it one e = search rules

same_long : (it one : LongKind) → long_eq.eq-value.it it one ≡ true → it ≡ one
same_long it one e = search rules

same_index : (it one : Index) → index_eq.eq-value.it it one ≡ true → it ≡ one
same_index it one e = search rules

same_offset : (it one : Offset) → offset_eq.eq-value.it it one ≡ true → it ≡ one
same_offset it one e = search rules

same_half : (it one : HalfKind) → half_eq.eq-value.it it one ≡ true → it ≡ one
same_half it one e = search rules

same_barrier : (it one : BarrierKind) → barrier_eq.eq-value.it it one ≡ true → it ≡ one
same_barrier it one e = search rules

same_size : (it one : Size) → size_eq.eq-value.it it one ≡ true → it ≡ one
same_size it one e = search rules

same_bit : (it one : Bool) → beq it one ≡ true → it ≡ one
same_bit it one e = search rules

both : (a b : Bool) → (a && b) ≡ true → (a ≡ true) × (b ≡ true)
both true b e = (refl, e)
both false b e = cc

-- what `==` finds equal is the same
pub equal_is_same : (one it : Instr) → instr_eq.eq-value.it it one ≡ true → it ≡ one
equal_is_same (Alu cond op s rd rn operand) (Alu cond' op' s' rd' rn' operand') e =
    let of_cond = both (cond' == cond) ((op_eq.eq-value.it op' op) && ((beq s' s) && ((rd' == rd) && ((rn' == rn) && ((operand_eq.eq-value.it operand' operand)))))) e in
    let of_op = both (op_eq.eq-value.it op' op) ((beq s' s) && ((rd' == rd) && ((rn' == rn) && ((operand_eq.eq-value.it operand' operand))))) of_cond.1 in
    let of_s = both (beq s' s) ((rd' == rd) && ((rn' == rn) && ((operand_eq.eq-value.it operand' operand)))) of_op.1 in
    let of_rd = both (rd' == rd) ((rn' == rn) && ((operand_eq.eq-value.it operand' operand))) of_s.1 in
    let of_rn = both (rn' == rn) ((operand_eq.eq-value.it operand' operand)) of_rd.1 in
    let is_cond : cond' ≡ cond = eqb-true cond' cond of_cond.0 in
    let is_op : op' ≡ op = same_op op' op of_op.0 in
    let is_s : s' ≡ s = same_bit s' s of_s.0 in
    let is_rd : rd' ≡ rd = eqb-true rd' rd of_rd.0 in
    let is_rn : rn' ≡ rn = eqb-true rn' rn of_rn.0 in
    let is_operand : operand' ≡ operand = same_operand operand' operand of_rn.1 in
    cc
equal_is_same (Movw cond rd imm) (Movw cond' rd' imm') e = search rules
equal_is_same (Movt cond rd imm) (Movt cond' rd' imm') e = search rules
equal_is_same (Nop cond) (Nop cond') e = search rules
equal_is_same (Yield cond) (Yield cond') e = search rules
equal_is_same (Mul cond s rd rn rm) (Mul cond' s' rd' rn' rm') e = search rules
equal_is_same (Mla cond s rd rn rm ra) (Mla cond' s' rd' rn' rm' ra') e = search rules
equal_is_same (Mls cond rd rn rm ra) (Mls cond' rd' rn' rm' ra') e = search rules
equal_is_same (Long cond kind s lo hi rn rm) (Long cond' kind' s' lo' hi' rn' rm') e =
    let of_cond = both (cond' == cond) ((long_eq.eq-value.it kind' kind) && ((beq s' s) && ((lo' == lo) && ((hi' == hi) && ((rn' == rn) && ((rm' == rm))))))) e in
    let of_kind = both (long_eq.eq-value.it kind' kind) ((beq s' s) && ((lo' == lo) && ((hi' == hi) && ((rn' == rn) && ((rm' == rm)))))) of_cond.1 in
    let of_s = both (beq s' s) ((lo' == lo) && ((hi' == hi) && ((rn' == rn) && ((rm' == rm))))) of_kind.1 in
    let of_lo = both (lo' == lo) ((hi' == hi) && ((rn' == rn) && ((rm' == rm)))) of_s.1 in
    let of_hi = both (hi' == hi) ((rn' == rn) && ((rm' == rm))) of_lo.1 in
    let of_rn = both (rn' == rn) ((rm' == rm)) of_hi.1 in
    let is_cond : cond' ≡ cond = eqb-true cond' cond of_cond.0 in
    let is_kind : kind' ≡ kind = same_long kind' kind of_kind.0 in
    let is_s : s' ≡ s = same_bit s' s of_s.0 in
    let is_lo : lo' ≡ lo = eqb-true lo' lo of_lo.0 in
    let is_hi : hi' ≡ hi = eqb-true hi' hi of_hi.0 in
    let is_rn : rn' ≡ rn = eqb-true rn' rn of_rn.0 in
    let is_rm : rm' ≡ rm = eqb-true rm' rm of_rn.1 in
    cc
equal_is_same (Clz cond rd rm) (Clz cond' rd' rm') e = search rules
equal_is_same (Extend cond unsigned half rd rm turn) (Extend cond' unsigned' half' rd' rm' turn') e = search rules
equal_is_same (Rev cond rd rm) (Rev cond' rd' rm') e = search rules
equal_is_same (Word cond load byte index rn rt offset) (Word cond' load' byte' index' rn' rt' offset') e =
    let of_cond = both (cond' == cond) ((beq load' load) && ((beq byte' byte) && ((index_eq.eq-value.it index' index) && ((rn' == rn) && ((rt' == rt) && ((offset_eq.eq-value.it offset' offset))))))) e in
    let of_load = both (beq load' load) ((beq byte' byte) && ((index_eq.eq-value.it index' index) && ((rn' == rn) && ((rt' == rt) && ((offset_eq.eq-value.it offset' offset)))))) of_cond.1 in
    let of_byte = both (beq byte' byte) ((index_eq.eq-value.it index' index) && ((rn' == rn) && ((rt' == rt) && ((offset_eq.eq-value.it offset' offset))))) of_load.1 in
    let of_index = both (index_eq.eq-value.it index' index) ((rn' == rn) && ((rt' == rt) && ((offset_eq.eq-value.it offset' offset)))) of_byte.1 in
    let of_rn = both (rn' == rn) ((rt' == rt) && ((offset_eq.eq-value.it offset' offset))) of_index.1 in
    let of_rt = both (rt' == rt) ((offset_eq.eq-value.it offset' offset)) of_rn.1 in
    let is_cond : cond' ≡ cond = eqb-true cond' cond of_cond.0 in
    let is_load : load' ≡ load = same_bit load' load of_load.0 in
    let is_byte : byte' ≡ byte = same_bit byte' byte of_byte.0 in
    let is_index : index' ≡ index = same_index index' index of_index.0 in
    let is_rn : rn' ≡ rn = eqb-true rn' rn of_rn.0 in
    let is_rt : rt' ≡ rt = eqb-true rt' rt of_rt.0 in
    let is_offset : offset' ≡ offset = same_offset offset' offset of_rt.1 in
    cc
equal_is_same (Half cond kind index rn rt offset) (Half cond' kind' index' rn' rt' offset') e =
    let of_cond = both (cond' == cond) ((half_eq.eq-value.it kind' kind) && ((index_eq.eq-value.it index' index) && ((rn' == rn) && ((rt' == rt) && ((offset_eq.eq-value.it offset' offset)))))) e in
    let of_kind = both (half_eq.eq-value.it kind' kind) ((index_eq.eq-value.it index' index) && ((rn' == rn) && ((rt' == rt) && ((offset_eq.eq-value.it offset' offset))))) of_cond.1 in
    let of_index = both (index_eq.eq-value.it index' index) ((rn' == rn) && ((rt' == rt) && ((offset_eq.eq-value.it offset' offset)))) of_kind.1 in
    let of_rn = both (rn' == rn) ((rt' == rt) && ((offset_eq.eq-value.it offset' offset))) of_index.1 in
    let of_rt = both (rt' == rt) ((offset_eq.eq-value.it offset' offset)) of_rn.1 in
    let is_cond : cond' ≡ cond = eqb-true cond' cond of_cond.0 in
    let is_kind : kind' ≡ kind = same_half kind' kind of_kind.0 in
    let is_index : index' ≡ index = same_index index' index of_index.0 in
    let is_rn : rn' ≡ rn = eqb-true rn' rn of_rn.0 in
    let is_rt : rt' ≡ rt = eqb-true rt' rt of_rt.0 in
    let is_offset : offset' ≡ offset = same_offset offset' offset of_rt.1 in
    cc
equal_is_same (Block cond load before up wback rn list) (Block cond' load' before' up' wback' rn' list') e =
    let of_cond = both (cond' == cond) ((beq load' load) && ((beq before' before) && ((beq up' up) && ((beq wback' wback) && ((rn' == rn) && ((list' == list))))))) e in
    let of_load = both (beq load' load) ((beq before' before) && ((beq up' up) && ((beq wback' wback) && ((rn' == rn) && ((list' == list)))))) of_cond.1 in
    let of_before = both (beq before' before) ((beq up' up) && ((beq wback' wback) && ((rn' == rn) && ((list' == list))))) of_load.1 in
    let of_up = both (beq up' up) ((beq wback' wback) && ((rn' == rn) && ((list' == list)))) of_before.1 in
    let of_wback = both (beq wback' wback) ((rn' == rn) && ((list' == list))) of_up.1 in
    let of_rn = both (rn' == rn) ((list' == list)) of_wback.1 in
    let is_cond : cond' ≡ cond = eqb-true cond' cond of_cond.0 in
    let is_load : load' ≡ load = same_bit load' load of_load.0 in
    let is_before : before' ≡ before = same_bit before' before of_before.0 in
    let is_up : up' ≡ up = same_bit up' up of_up.0 in
    let is_wback : wback' ≡ wback = same_bit wback' wback of_wback.0 in
    let is_rn : rn' ≡ rn = eqb-true rn' rn of_rn.0 in
    let is_list : list' ≡ list = eqb-true list' list of_rn.1 in
    cc
equal_is_same (Branch cond link words) (Branch cond' link' words') e = search rules
equal_is_same (BranchReg cond link rm) (BranchReg cond' link' rm') e = search rules
equal_is_same (Svc cond imm) (Svc cond' imm') e = search rules
equal_is_same (LoadEx cond size rn rt) (LoadEx cond' size' rn' rt') e = search (same_size, rules)
equal_is_same (StoreEx cond size rn rd rt) (StoreEx cond' size' rn' rd' rt') e = search (same_size, rules)
equal_is_same Clrex Clrex e = refl
equal_is_same (Barrier kind option) (Barrier kind' option') e = search (same_barrier, rules)
equal_is_same one it e = absurd (both_ways false refl e)

-- and it finds the same equal
pub same_is_equal : (one it : Instr) → it ≡ one → instr_eq.eq-value.it it one ≡ true
same_is_equal one it is = rw is (eq_laws.laws-law.refl one)
