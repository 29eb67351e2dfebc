-- The table of instruction words (The RISC-V Instruction Set Manual, Volume I, "RV32/64G Instruction Set Listings": RV32I and
-- Zalrsc). Every other word is undefined.
use Rattle.std.specs.Prelude.{◌≡◌, ℕ, if◌then◌else◌, Bool, IsTrue, All, List, [], ◌∷◌, codes, Result, Ok, Err}
use Rattle.llsc_base.specs.Bits.{Run, runs, field, has_bits}
use Rattle.llsc_base.specs.declared.decoding.DecodeFault.{DecodeFault}
use Rattle.llsc_base.specs.declared.decoding.DecodeFault.TheVariants.{Undefined}
use Rattle.rv32_guest.specs.declared.instructions.RvInstr.{RvInstr}
use Rattle.rv32_guest.specs.declared.instructions.RvInstr.TheVariants.{Lui, Auipc, Jal, Jalr, Beq, Bne, Blt, Bge, Bltu, Bgeu, Lb, Lh, Lw, Lbu, Lhu, Sb, Sh, Sw, Addi, Slti, Sltiu, Xori, Ori, Andi, Slli, Srli, Srai, Add, Sub, Sll, Slt, Sltu, Xor, Srl, Sra, Or, And, Fence, LrW, ScW, Ecall}
use Rattle.rv32_guest.specs.Immediates.{signed_field, upper, branch_distance, jump_distance}

-- a row: its bits, and the instruction of a word that has them, which is told the values of the word's fields by their letters
pub record Row : Type 0 where
  pub bits : List Run
  pub instr : (ℕ → ℕ) → RvInstr

-- The letters of the fields, by their ASCII codes: d is rd, s rs1, t rs2, a a shift's amount, and i an immediate. Where its
-- pieces don't stand in their order, h is its highest bit, k bit 11, j the lowest piece, and i the other one. FENCE's m, p and
-- q, and the a and r of LR.W and SC.W, which order accesses, may be any.
abbrev pub a : ℕ
a = 97

abbrev pub d : ℕ
d = 100

abbrev pub h : ℕ
h = 104

abbrev pub i : ℕ
i = 105

abbrev pub j : ℕ
j = 106

abbrev pub k : ℕ
k = 107

abbrev pub s : ℕ
s = 115

abbrev pub t : ℕ
t = 116

abbrev row : List ℕ → ((ℕ → ℕ) → RvInstr) → Row
row text instr = record { bits = runs text; instr = instr }

-- upper immediates ("Integer Register-Immediate Instructions"), and jumps ("Unconditional Jumps")
abbrev pub lui : Row
lui = row (codes "iiii iiii iiii iiii iiii dddd d011 0111") (λ f. Lui (f d) (upper (f i)))

abbrev pub auipc : Row
auipc = row (codes "iiii iiii iiii iiii iiii dddd d001 0111") (λ f. Auipc (f d) (upper (f i)))

abbrev pub jal : Row
jal = row (codes "hjjj jjjj jjjk iiii iiii dddd d110 1111") (λ f. Jal (f d) (jump_distance (f h) (f i) (f k) (f j)))

abbrev pub jalr : Row
jalr = row (codes "iiii iiii iiii ssss s000 dddd d110 0111") (λ f. Jalr (f d) (f s) (signed_field 12 (f i)))

-- branches ("Conditional Branches")
abbrev pub beq : Row
beq = row (codes "hiii iiit tttt ssss s000 jjjj k110 0011") (λ f. Beq (f s) (f t) (branch_distance (f h) (f k) (f i) (f j)))

abbrev pub bne : Row
bne = row (codes "hiii iiit tttt ssss s001 jjjj k110 0011") (λ f. Bne (f s) (f t) (branch_distance (f h) (f k) (f i) (f j)))

abbrev pub blt : Row
blt = row (codes "hiii iiit tttt ssss s100 jjjj k110 0011") (λ f. Blt (f s) (f t) (branch_distance (f h) (f k) (f i) (f j)))

abbrev pub bge : Row
bge = row (codes "hiii iiit tttt ssss s101 jjjj k110 0011") (λ f. Bge (f s) (f t) (branch_distance (f h) (f k) (f i) (f j)))

abbrev pub bltu : Row
bltu = row (codes "hiii iiit tttt ssss s110 jjjj k110 0011") (λ f. Bltu (f s) (f t) (branch_distance (f h) (f k) (f i) (f j)))

abbrev pub bgeu : Row
bgeu = row (codes "hiii iiit tttt ssss s111 jjjj k110 0011") (λ f. Bgeu (f s) (f t) (branch_distance (f h) (f k) (f i) (f j)))

-- loads and stores ("Load and Store Instructions")
abbrev pub lb : Row
lb = row (codes "iiii iiii iiii ssss s000 dddd d000 0011") (λ f. Lb (f d) (f s) (signed_field 12 (f i)))

abbrev pub lh : Row
lh = row (codes "iiii iiii iiii ssss s001 dddd d000 0011") (λ f. Lh (f d) (f s) (signed_field 12 (f i)))

abbrev pub lw : Row
lw = row (codes "iiii iiii iiii ssss s010 dddd d000 0011") (λ f. Lw (f d) (f s) (signed_field 12 (f i)))

abbrev pub lbu : Row
lbu = row (codes "iiii iiii iiii ssss s100 dddd d000 0011") (λ f. Lbu (f d) (f s) (signed_field 12 (f i)))

abbrev pub lhu : Row
lhu = row (codes "iiii iiii iiii ssss s101 dddd d000 0011") (λ f. Lhu (f d) (f s) (signed_field 12 (f i)))

abbrev pub sb : Row
sb = row (codes "iiii iiit tttt ssss s000 iiii i010 0011") (λ f. Sb (f s) (f t) (signed_field 12 (f i)))

abbrev pub sh : Row
sh = row (codes "iiii iiit tttt ssss s001 iiii i010 0011") (λ f. Sh (f s) (f t) (signed_field 12 (f i)))

abbrev pub sw : Row
sw = row (codes "iiii iiit tttt ssss s010 iiii i010 0011") (λ f. Sw (f s) (f t) (signed_field 12 (f i)))

-- computing with an immediate ("Integer Register-Immediate Instructions")
abbrev pub addi : Row
addi = row (codes "iiii iiii iiii ssss s000 dddd d001 0011") (λ f. Addi (f d) (f s) (signed_field 12 (f i)))

abbrev pub slti : Row
slti = row (codes "iiii iiii iiii ssss s010 dddd d001 0011") (λ f. Slti (f d) (f s) (signed_field 12 (f i)))

abbrev pub sltiu : Row
sltiu = row (codes "iiii iiii iiii ssss s011 dddd d001 0011") (λ f. Sltiu (f d) (f s) (signed_field 12 (f i)))

abbrev pub xori : Row
xori = row (codes "iiii iiii iiii ssss s100 dddd d001 0011") (λ f. Xori (f d) (f s) (signed_field 12 (f i)))

abbrev pub ori : Row
ori = row (codes "iiii iiii iiii ssss s110 dddd d001 0011") (λ f. Ori (f d) (f s) (signed_field 12 (f i)))

abbrev pub andi : Row
andi = row (codes "iiii iiii iiii ssss s111 dddd d001 0011") (λ f. Andi (f d) (f s) (signed_field 12 (f i)))

abbrev pub slli : Row
slli = row (codes "0000 000a aaaa ssss s001 dddd d001 0011") (λ f. Slli (f d) (f s) (f a))

abbrev pub srli : Row
srli = row (codes "0000 000a aaaa ssss s101 dddd d001 0011") (λ f. Srli (f d) (f s) (f a))

abbrev pub srai : Row
srai = row (codes "0100 000a aaaa ssss s101 dddd d001 0011") (λ f. Srai (f d) (f s) (f a))

-- computing with registers ("Integer Register-Register Operations")
abbrev pub add : Row
add = row (codes "0000 000t tttt ssss s000 dddd d011 0011") (λ f. Add (f d) (f s) (f t))

abbrev pub sub : Row
sub = row (codes "0100 000t tttt ssss s000 dddd d011 0011") (λ f. Sub (f d) (f s) (f t))

abbrev pub sll : Row
sll = row (codes "0000 000t tttt ssss s001 dddd d011 0011") (λ f. Sll (f d) (f s) (f t))

abbrev pub slt : Row
slt = row (codes "0000 000t tttt ssss s010 dddd d011 0011") (λ f. Slt (f d) (f s) (f t))

abbrev pub sltu : Row
sltu = row (codes "0000 000t tttt ssss s011 dddd d011 0011") (λ f. Sltu (f d) (f s) (f t))

abbrev pub xor : Row
xor = row (codes "0000 000t tttt ssss s100 dddd d011 0011") (λ f. Xor (f d) (f s) (f t))

abbrev pub srl : Row
srl = row (codes "0000 000t tttt ssss s101 dddd d011 0011") (λ f. Srl (f d) (f s) (f t))

abbrev pub sra : Row
sra = row (codes "0100 000t tttt ssss s101 dddd d011 0011") (λ f. Sra (f d) (f s) (f t))

abbrev pub or : Row
or = row (codes "0000 000t tttt ssss s110 dddd d011 0011") (λ f. Or (f d) (f s) (f t))

abbrev pub and : Row
and = row (codes "0000 000t tttt ssss s111 dddd d011 0011") (λ f. And (f d) (f s) (f t))

-- fences ("Memory Ordering Instructions"), load-reserved and store-conditional ("Zalrsc"), and the environment call ("Environment Call and Breakpoints")
abbrev pub fence : Row
fence = row (codes "mmmm pppp qqqq ssss s000 dddd d000 1111") (λ f. Fence)

abbrev pub lr_w : Row
lr_w = row (codes "0001 0ar0 0000 ssss s010 dddd d010 1111") (λ f. LrW (f d) (f s))

abbrev pub sc_w : Row
sc_w = row (codes "0001 1art tttt ssss s010 dddd d010 1111") (λ f. ScW (f d) (f s) (f t))

abbrev pub ecall : Row
ecall = row (codes "0000 0000 0000 0000 0000 0000 0111 0011") (λ f. Ecall)

abbrev pub table : List Row
table =
    lui ∷ auipc ∷ jal ∷ jalr ∷
    beq ∷ bne ∷ blt ∷ bge ∷ bltu ∷ bgeu ∷
    lb ∷ lh ∷ lw ∷ lbu ∷ lhu ∷ sb ∷ sh ∷ sw ∷
    addi ∷ slti ∷ sltiu ∷ xori ∷ ori ∷ andi ∷ slli ∷ srli ∷ srai ∷
    add ∷ sub ∷ sll ∷ slt ∷ sltu ∷ xor ∷ srl ∷ sra ∷ or ∷ and ∷
    fence ∷ lr_w ∷ sc_w ∷ ecall ∷ []

-- The meaning of a word.

-- a word fits a row where it has its fixed bits
abbrev pub fits : Row → ℕ → Bool
fits row word = has_bits word row.bits

-- what a word that fits a row means
abbrev pub outcome : Row → ℕ → Result RvInstr DecodeFault
outcome row word = Ok (row.instr (field word row.bits))

-- a word means what the row that it fits says, and is undefined where it fits none
unfoldable pub meaning : List Row → ℕ → Result RvInstr DecodeFault
meaning [] word = Err Undefined
meaning (row ∷ rows) word = if fits row word then outcome row word else meaning rows word

-- no word fits both rows
abbrev pub AreApart : Row → Row → Type 0
AreApart row other = (word : ℕ) → IsTrue (fits row word) → IsTrue (fits other word) → ⊥

-- a word fits no row of a list
abbrev pub FitsNone : List Row → ℕ → Type 0
FitsNone rows word = All (λ row. IsTrue (fits row word) → ⊥) rows

-- a word that fits a row of a list means what that row says
abbrev pub MeansItsRow : List Row → ℕ → Result RvInstr DecodeFault → Type 0
MeansItsRow rows word meaning = All (λ row. IsTrue (fits row word) → meaning ≡ outcome row word) rows
