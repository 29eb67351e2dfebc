-- The table of instruction words (DDI 0406C A5.1 to A5.7, and A8.8 for each instruction).
use Rattle.std.specs.Prelude.{◌≡◌, ℕ, ◌^◌, ◌<◌, ◌==◌, ◌&&◌, ◌||◌, not, nat_lt, if◌then◌else◌, Bool, true, IsTrue, All, List, [], ◌∷◌, codes, Result, Ok, Err}
use Rattle.llsc_base.specs.Bits.{Run, runs, runs_of, field, has_bits}
use Rattle.a32_instr.specs.Fields.{alu_op, shift_kind, long_kind, alu_fits, alu_unpredictable, one_of_2_is_pc, one_of_3_is_pc, one_of_4_is_pc, exclusive_size, no_pair, status_clashes, index_fits, index_of, word_unpredictable, half_fits, half_kind, half_unpredictable, block_unpredictable, barrier_kind, signed24, always, never}
use Rattle.a32_instr.specs.declared.instructions.ShiftKind.TheVariants.{Lsl}
use Rattle.a32_instr.specs.declared.instructions.Operand2.TheVariants as operand
use Rattle.a32_instr.specs.declared.instructions.Offset.TheVariants as offset
use Rattle.a32_instr.specs.declared.instructions.Instr.{Instr}
use Rattle.a32_instr.specs.declared.instructions.Instr.TheVariants.{Alu, Movw, Movt, Nop, Yield, Mul, Mla, Mls, Long, Clz, Extend, Rev, Word, Half, Block, Branch, BranchReg, Svc, LoadEx, StoreEx, Clrex, Barrier}
use Rattle.llsc_base.specs.declared.decoding.DecodeFault.{DecodeFault}
use Rattle.llsc_base.specs.declared.decoding.DecodeFault.TheVariants.{Undefined, Unpredictable}

-- A row: its bits; its further condition, where it fits; where a word that fits it is unpredictable; and the
-- instruction that every other such word means. Each is told the values of the word's fields by their letters.
pub record Row : Type 0 where
  pub bits : List Run
  pub further : (ℕ → ℕ) → Bool
  pub unpredictable : (ℕ → ℕ) → Bool
  pub instr : (ℕ → ℕ) → Instr

-- The letters of the fields, by their ASCII codes. Mostly a field has a letter of the manual's name of it: cond is
-- c, Rd d, Rm m, Rn n, Rt t, S s, and P, U, B, W and L are p, u, b, w and l. The others are:
--   a  a shift's amount, or the register to whose value a multiplication adds its product, or from which it takes it
--   g  the registers of a list
--   h  the high half of a product, or whether an extend takes a halfword
--   i  a number, in one piece or more
--   k  a kind of shift or of long multiplication
--   o  an operation, or a barrier's option; b is also the barrier's kind, l the low half of a product or a link
--   q  the register whose low byte is a shift's amount
--   r  a turn to the right: in twos at a number of a data-processing instruction, in bytes at an extend
--   u  also whether an extend is unsigned
--   x, y  at a halfword or a signed byte: whether what is loaded is signed, and whether it is a halfword
--   z  the size of an exclusive access
abbrev pub a : ℕ
a = 97

abbrev pub b : ℕ
b = 98

abbrev pub c : ℕ
c = 99

abbrev pub d : ℕ
d = 100

abbrev pub g : ℕ
g = 103

abbrev pub h : ℕ
h = 104

abbrev pub i : ℕ
i = 105

abbrev pub k : ℕ
k = 107

abbrev pub l : ℕ
l = 108

abbrev pub m : ℕ
m = 109

abbrev pub n : ℕ
n = 110

abbrev pub o : ℕ
o = 111

abbrev pub p : ℕ
p = 112

abbrev pub q : ℕ
q = 113

abbrev pub r : ℕ
r = 114

abbrev pub s : ℕ
s = 115

abbrev pub t : ℕ
t = 116

abbrev pub u : ℕ
u = 117

abbrev pub w : ℕ
w = 119

abbrev pub x : ℕ
x = 120

abbrev pub y : ℕ
y = 121

abbrev pub z : ℕ
z = 122

-- The rows, each below the assembler syntax of its words as the manual has it: {c} is a condition, which may be left out, {S} an S
-- where the flags are set, {!} a ! where the base is written back, and +/- a sign.

-- data processing with an immediate (DDI 0406C A5.2.3)
-- ADD{S}{c} Rd, Rn, #const, and so the other operations; MOV{S}{c} Rd, #const, MVN{S}{c}; CMP{c} Rn, #const, CMN{c}, TST{c}, TEQ{c}
abbrev pub alu_imm : Row
alu_imm = record {
  bits = runs (codes "cccc 001o ooos nnnn dddd rrrr iiii iiii");
  further = λ f. alu_fits (alu_op (f o)) (f s) (f d) (f n);
  unpredictable = λ f. alu_unpredictable (alu_op (f o)) (f s) (f d);
  instr = λ f. Alu (f c) (alu_op (f o)) (f s == 1) (f d) (f n) (operand.Imm (f r) (f i));
}

-- data processing with a register that is shifted by a number (DDI 0406C A5.2.1)
-- ADD{S}{c} Rd, Rn, Rm{, shift}, and so the other operations; MOV{S}{c} Rd, Rm{, shift}, MVN{S}{c}; CMP{c} Rn, Rm{, shift},
-- CMN{c}, TST{c}, TEQ{c}. A shift is LSL, LSR, ASR or ROR by #amount, or RRX.
abbrev pub alu_by_num : Row
alu_by_num = record {
  bits = runs (codes "cccc 000o ooos nnnn dddd aaaa akk0 mmmm");
  further = λ f. alu_fits (alu_op (f o)) (f s) (f d) (f n);
  unpredictable = λ f. alu_unpredictable (alu_op (f o)) (f s) (f d);
  instr = λ f. Alu (f c) (alu_op (f o)) (f s == 1) (f d) (f n) (operand.ByNum (f m) (shift_kind (f k)) (f a));
}

-- data processing with a register that is shifted by another (DDI 0406C A5.2.2)
-- ADD{S}{c} Rd, Rn, Rm, LSL Rs, and so the other operations and shifts; MOV{S}{c} Rd, Rm, LSL Rs, MVN{S}{c}; CMP{c} Rn, Rm, LSL Rs,
-- CMN{c}, TST{c}, TEQ{c}
abbrev pub alu_by_reg : Row
alu_by_reg = record {
  bits = runs (codes "cccc 000o ooos nnnn dddd qqqq 0kk1 mmmm");
  further = λ f. alu_fits (alu_op (f o)) (f s) (f d) (f n);
  unpredictable = λ f. one_of_4_is_pc (f n) (f d) (f q) (f m);
  instr = λ f. Alu (f c) (alu_op (f o)) (f s == 1) (f d) (f n) (operand.ByReg (f m) (shift_kind (f k)) (f q));
}

-- wide moves (DDI 0406C A5.2)
-- MOVW{c} Rd, #imm16 (A8.8.102)
abbrev pub movw : Row
movw = record {
  bits = runs (codes "cccc 0011 0000 iiii dddd iiii iiii iiii");
  further = always;
  unpredictable = λ f. f d == 15;
  instr = λ f. Movw (f c) (f d) (f i);
}

-- MOVT{c} Rd, #imm16 (A8.8.106)
abbrev pub movt : Row
movt = record {
  bits = runs (codes "cccc 0011 0100 iiii dddd iiii iiii iiii");
  further = always;
  unpredictable = λ f. f d == 15;
  instr = λ f. Movt (f c) (f d) (f i);
}

-- hints (DDI 0406C A5.2.11), of which NOP and YIELD are known here: every other one fits no row
-- NOP{c} (A8.8.119)
abbrev pub nop : Row
nop = record {
  bits = runs (codes "cccc 0011 0010 0000 1111 0000 0000 0000");
  further = always;
  unpredictable = never;
  instr = λ f. Nop (f c);
}

-- YIELD{c} (A8.8.426)
abbrev pub yields : Row
yields = record {
  bits = runs (codes "cccc 0011 0010 0000 1111 0000 0000 0001");
  further = always;
  unpredictable = never;
  instr = λ f. Yield (f c);
}

-- multiplications (DDI 0406C A5.2.5)
-- MUL{S}{c} Rd, Rn, Rm (A8.8.114)
abbrev pub mul : Row
mul = record {
  bits = runs (codes "cccc 0000 000s dddd 0000 mmmm 1001 nnnn");
  further = always;
  unpredictable = λ f. one_of_3_is_pc (f d) (f n) (f m);
  instr = λ f. Mul (f c) (f s == 1) (f d) (f n) (f m);
}

-- MLA{S}{c} Rd, Rn, Rm, Ra (A8.8.100)
abbrev pub mla : Row
mla = record {
  bits = runs (codes "cccc 0000 001s dddd aaaa mmmm 1001 nnnn");
  further = always;
  unpredictable = λ f. one_of_4_is_pc (f d) (f n) (f m) (f a);
  instr = λ f. Mla (f c) (f s == 1) (f d) (f n) (f m) (f a);
}

-- MLS{c} Rd, Rn, Rm, Ra (A8.8.101)
abbrev pub mls : Row
mls = record {
  bits = runs (codes "cccc 0000 0110 dddd aaaa mmmm 1001 nnnn");
  further = always;
  unpredictable = λ f. one_of_4_is_pc (f d) (f n) (f m) (f a);
  instr = λ f. Mls (f c) (f d) (f n) (f m) (f a);
}

-- UMULL{S}{c} RdLo, RdHi, Rn, Rm, UMLAL{S}{c}, SMULL{S}{c}, SMLAL{S}{c} (A8.8.257, A8.8.256, A8.8.189, A8.8.178)
abbrev pub long : Row
long = record {
  bits = runs (codes "cccc 0000 1kks hhhh llll mmmm 1001 nnnn");
  further = always;
  unpredictable = λ f. one_of_4_is_pc (f h) (f l) (f n) (f m) || (f h == f l);
  instr = λ f. Long (f c) (long_kind (f k)) (f s == 1) (f l) (f h) (f n) (f m);
}

-- count of leading zeros (DDI 0406C A5.2.12)
-- CLZ{c} Rd, Rm (A8.8.33)
abbrev pub clz : Row
clz = record {
  bits = runs (codes "cccc 0001 0110 1111 dddd 1111 0001 mmmm");
  further = always;
  unpredictable = λ f. one_of_2_is_pc (f d) (f m);
  instr = λ f. Clz (f c) (f d) (f m);
}

-- extended parts and reversed bytes (DDI 0406C A5.4.3)
-- UXTB{c} Rd, Rm{, ROR #turn}, UXTH{c}, SXTB{c}, SXTH{c}, where a turn is 8, 16 or 24 (A8.8.274, A8.8.276, A8.8.233, A8.8.235)
abbrev pub extend : Row
extend = record {
  bits = runs (codes "cccc 0110 1u1h 1111 dddd rr00 0111 mmmm");
  further = always;
  unpredictable = λ f. one_of_2_is_pc (f d) (f m);
  instr = λ f. Extend (f c) (f u == 1) (f h == 1) (f d) (f m) (f r);
}

-- REV{c} Rd, Rm (A8.8.145)
abbrev pub rev : Row
rev = record {
  bits = runs (codes "cccc 0110 1011 1111 dddd 1111 0011 mmmm");
  further = always;
  unpredictable = λ f. one_of_2_is_pc (f d) (f m);
  instr = λ f. Rev (f c) (f d) (f m);
}

-- load and store of a word or a byte (DDI 0406C A5.3), with an immediate offset and with a register
-- LDR{c} Rt, [Rn{, #+/-imm12}], LDR{c} Rt, [Rn, #+/-imm12]!, LDR{c} Rt, [Rn], #+/-imm12; and so LDRB{c}, STR{c}, STRB{c}
abbrev pub word_imm : Row
word_imm = record {
  bits = runs (codes "cccc 010p ubwl nnnn tttt iiii iiii iiii");
  further = λ f. index_fits (f p) (f w);
  unpredictable = λ f. word_unpredictable (f p) (f w) (f b) (f n) (f t);
  instr = λ f. Word (f c) (f l == 1) (f b == 1) (index_of (f p) (f w)) (f n) (f t) (offset.Imm (f u == 1) (f i));
}

-- LDR{c} Rt, [Rn, +/-Rm{, shift}]{!}, LDR{c} Rt, [Rn], +/-Rm{, shift}; and so LDRB{c}, STR{c}, STRB{c}
abbrev pub word_reg : Row
word_reg = record {
  bits = runs (codes "cccc 011p ubwl nnnn tttt aaaa akk0 mmmm");
  further = λ f. index_fits (f p) (f w);
  unpredictable = λ f. word_unpredictable (f p) (f w) (f b) (f n) (f t) || (f m == 15);
  instr = λ f. Word (f c) (f l == 1) (f b == 1) (index_of (f p) (f w)) (f n) (f t) (offset.Shifted (f u == 1) (f m) (shift_kind (f k)) (f a));
}

-- load and store of a halfword, and load of a signed byte (DDI 0406C A5.2.8), with an immediate offset and with a register
-- LDRH{c} Rt, [Rn{, #+/-imm8}], LDRH{c} Rt, [Rn, #+/-imm8]!, LDRH{c} Rt, [Rn], #+/-imm8; and so LDRSB{c}, LDRSH{c}, STRH{c}
abbrev pub half_imm : Row
half_imm = record {
  bits = runs (codes "cccc 000p u1wl nnnn tttt iiii 1xy1 iiii");
  further = λ f. index_fits (f p) (f w) && half_fits (f l) (f x) (f y);
  unpredictable = λ f. half_unpredictable (f p) (f w) (f n) (f t);
  instr = λ f. Half (f c) (half_kind (f l) (f x) (f y)) (index_of (f p) (f w)) (f n) (f t) (offset.Imm (f u == 1) (f i));
}

-- LDRH{c} Rt, [Rn, +/-Rm]{!}, LDRH{c} Rt, [Rn], +/-Rm; and so LDRSB{c}, LDRSH{c}, STRH{c}
abbrev pub half_reg : Row
half_reg = record {
  bits = runs (codes "cccc 000p u0wl nnnn tttt 0000 1xy1 mmmm");
  further = λ f. index_fits (f p) (f w) && half_fits (f l) (f x) (f y);
  unpredictable = λ f. half_unpredictable (f p) (f w) (f n) (f t) || (f m == 15);
  instr = λ f. Half (f c) (half_kind (f l) (f x) (f y)) (index_of (f p) (f w)) (f n) (f t) (offset.Shifted (f u == 1) (f m) Lsl 0);
}

-- load and store of a block of registers, whose list is g (DDI 0406C A5.5)
-- LDMIA{c} Rn{!}, registers, LDMIB{c}, LDMDA{c}, LDMDB{c} (A8.8.58 to A8.8.61); STMIA{c} Rn{!}, registers, STMIB{c}, STMDA{c},
-- STMDB{c} (A8.8.199 to A8.8.202)
abbrev pub block : Row
block = record {
  bits = runs (codes "cccc 100p u0wl nnnn gggg gggg gggg gggg");
  further = always;
  unpredictable = λ f. block_unpredictable (f w) (f l) (f n) (f g);
  instr = λ f. Block (f c) (f l == 1) (f p == 1) (f u == 1) (f w == 1) (f n) (f g);
}

-- branch, with a link or without (DDI 0406C A5.5)
-- B{c} label, BL{c} label (A8.8.18, A8.8.25)
abbrev pub branch : Row
branch = record {
  bits = runs (codes "cccc 101l iiii iiii iiii iiii iiii iiii");
  further = always;
  unpredictable = never;
  instr = λ f. Branch (f c) (f l == 1) (signed24 (f i));
}

-- branch to a register's address, with a link or without (DDI 0406C A5.2.12)
-- BX{c} Rm, BLX{c} Rm (A8.8.27, A8.8.26)
abbrev pub branch_reg : Row
branch_reg = record {
  bits = runs (codes "cccc 0001 0010 1111 1111 1111 00l1 mmmm");
  further = always;
  unpredictable = λ f. (f l == 1) && (f m == 15);
  instr = λ f. BranchReg (f c) (f l == 1) (f m);
}

-- supervisor call (DDI 0406C A5.6)
-- SVC{c} #imm24 (A8.8.228)
abbrev pub svc : Row
svc = record {
  bits = runs (codes "cccc 1111 iiii iiii iiii iiii iiii iiii");
  further = always;
  unpredictable = never;
  instr = λ f. Svc (f c) (f i);
}

-- load-exclusive and store-exclusive (DDI 0406C A5.2.10)
-- LDREX{c} Rt, [Rn], LDREXB{c}, LDREXH{c}; LDREXD{c} Rt, Rt2, [Rn] (A8.8.75 to A8.8.78)
abbrev pub load_ex : Row
load_ex = record {
  bits = runs (codes "cccc 0001 1zz1 nnnn tttt 1111 1001 1111");
  further = always;
  unpredictable = λ f. one_of_2_is_pc (f n) (f t) || no_pair (f z) (f t);
  instr = λ f. LoadEx (f c) (exclusive_size (f z)) (f n) (f t);
}

-- STREX{c} Rd, Rt, [Rn], STREXB{c}, STREXH{c}; STREXD{c} Rd, Rt, Rt2, [Rn] (A8.8.212 to A8.8.215)
abbrev pub store_ex : Row
store_ex = record {
  bits = runs (codes "cccc 0001 1zz0 nnnn dddd 1111 1001 tttt");
  further = always;
  unpredictable = λ f. one_of_3_is_pc (f n) (f d) (f t) || status_clashes (f z) (f n) (f d) (f t) || no_pair (f z) (f t);
  instr = λ f. StoreEx (f c) (exclusive_size (f z)) (f n) (f d) (f t);
}

-- clear-exclusive (DDI 0406C A5.7.1)
-- CLREX (A8.8.32)
abbrev pub clrex : Row
clrex = record {
  bits = runs (codes "1111 0101 0111 1111 1111 0000 0001 1111");
  further = always;
  unpredictable = never;
  instr = λ f. Clrex;
}

-- barriers (DDI 0406C A5.7.1)
-- DSB option, DMB option, ISB option (A8.8.44, A8.8.43, A8.8.53)
abbrev pub barrier : Row
barrier = record {
  bits = runs (codes "1111 0101 0111 1111 1111 0000 01bb oooo");
  further = λ f. not (f b == 3);
  unpredictable = never;
  instr = λ f. Barrier (barrier_kind (f b)) (f o);
}

abbrev pub table : List Row
table =
    clrex ∷ barrier ∷ alu_imm ∷ alu_by_num ∷ alu_by_reg ∷ half_imm ∷ half_reg ∷ movw ∷ movt ∷ nop ∷ yields ∷ mul ∷ mla ∷ mls ∷ long
    ∷ clz ∷ extend ∷ rev ∷ word_imm ∷ word_reg ∷ block ∷ branch ∷ branch_reg ∷ svc ∷ load_ex ∷ store_ex ∷ []

-- The meaning of a word.

-- a condition field, where the row has one, is at most 14
abbrev pub condition_fits : List Run → (ℕ → ℕ) → Bool
condition_fits [] f = true
condition_fits (run ∷ _) f = nat_lt (f c) 15

-- a word fits a row where it has its fixed bits, a condition and what else the row asks for
abbrev pub fits : Row → ℕ → Bool
fits row word =
    has_bits word row.bits
    && condition_fits (runs_of c row.bits) (field word row.bits)
    && row.further (field word row.bits)

-- what a word that fits a row means
abbrev pub outcome : Row → ℕ → Result Instr DecodeFault
outcome row word =
    if row.unpredictable (field word row.bits) then Err Unpredictable else Ok (row.instr (field word row.bits))

-- a word means what the row that it fits says, and is undefined where it fits none
unfoldable pub meaning : List Row → ℕ → Result Instr DecodeFault
meaning [] word = Err Undefined
meaning (row ∷ rows) word = if fits row word then outcome row word else meaning rows word

-- no word fits both rows
abbrev pub AreApart : Row → Row → Type 0
AreApart row other = (word : ℕ) → word < 2 ^ 32 → IsTrue (fits row word) → IsTrue (fits other word) → ⊥

-- a word fits no row of a list
abbrev pub FitsNone : List Row → ℕ → Type 0
FitsNone rows word = All (λ row. IsTrue (fits row word) → ⊥) rows

-- a word that fits a row of a list means what that row says
abbrev pub MeansItsRow : List Row → ℕ → Result Instr DecodeFault → Type 0
MeansItsRow rows word meaning = All (λ row. IsTrue (fits row word) → meaning ≡ outcome row word) rows
