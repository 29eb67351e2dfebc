-- Mnemonics: a base, then `s` where the operation has it and it sets the flags, then the condition where it isn't always.
use Rattle.std.specs.Prelude.{ℕ, ◌==◌, ◌&&◌, ◌||◌, not, nat_eq, nat_lt, if◌then◌else◌, Bool, true, false, List, [], ◌∷◌, ◌++◌, length, drop, slice_index_or, Option, Some, None, codes}
use Rattle.std.specs.List.{starts_with}
use Rattle.std.specs.Option.{option_map}
use Rattle.a32_instr.specs.declared.instructions.AluOp.{AluOp}
use Rattle.a32_instr.specs.declared.instructions.AluOp.TheVariants.{And, Eor, Sub, Rsb, Add, Adc, Sbc, Rsc, Tst, Teq, Cmp, Cmn, Orr, Mov, Bic, Mvn}
use Rattle.a32_instr.specs.declared.instructions.LongKind.{LongKind}
use Rattle.a32_instr.specs.declared.instructions.LongKind.TheVariants.{Umull, Umlal, Smull, Smlal}
use Rattle.a32_instr.specs.declared.instructions.HalfKind.{HalfKind}
use Rattle.a32_instr.specs.declared.instructions.HalfKind.TheVariants.{Strh, Ldrh, Ldrsb, Ldrsh}
use Rattle.a32_instr.specs.declared.instructions.BarrierKind.{BarrierKind}
use Rattle.a32_instr.specs.declared.instructions.BarrierKind.TheVariants.{Dsb, Dmb, Isb}
use Rattle.llsc_base.specs.declared.access.Size.{Size}
use Rattle.llsc_base.specs.declared.access.Size.TheVariants.{B1, B2, B4, B8}
use Rattle.a32_instr.specs.Condition.{always}
use Rattle.a32_instr.specs.Fields.{is_compare}
use Rattle.a32_forms.specs.Names.{names_in, place_from}
use Rattle.a32_syntax.specs.declared.operations.Operation.{Operation}
use Rattle.a32_syntax.specs.declared.operations.Operation.TheVariants.{Alu, Movw, Movt, Nop, Yield, Mul, Mla, Mls, Long, Clz, Rev, Extend, Word, Half, Block, Branch, BranchReg, Svc, LoadEx, StoreEx, Clrex, Barrier}
use Rattle.a32_syntax.specs.declared.operations.Mnemonic.{Mnemonic}

-- The base of each operation.

abbrev pub alu_base : AluOp → List ℕ
alu_base And = codes "and"
alu_base Eor = codes "eor"
alu_base Sub = codes "sub"
alu_base Rsb = codes "rsb"
alu_base Add = codes "add"
alu_base Adc = codes "adc"
alu_base Sbc = codes "sbc"
alu_base Rsc = codes "rsc"
alu_base Tst = codes "tst"
alu_base Teq = codes "teq"
alu_base Cmp = codes "cmp"
alu_base Cmn = codes "cmn"
alu_base Orr = codes "orr"
alu_base Mov = codes "mov"
alu_base Bic = codes "bic"
alu_base Mvn = codes "mvn"

abbrev pub long_base : LongKind → List ℕ
long_base Umull = codes "umull"
long_base Umlal = codes "umlal"
long_base Smull = codes "smull"
long_base Smlal = codes "smlal"

abbrev pub half_base : HalfKind → List ℕ
half_base Strh = codes "strh"
half_base Ldrh = codes "ldrh"
half_base Ldrsb = codes "ldrsb"
half_base Ldrsh = codes "ldrsh"

abbrev pub barrier_base : BarrierKind → List ℕ
barrier_base Dsb = codes "dsb"
barrier_base Dmb = codes "dmb"
barrier_base Isb = codes "isb"

abbrev pub extend_base : (unsigned half : Bool) → List ℕ
extend_base false false = codes "sxtb"
extend_base false true = codes "sxth"
extend_base true false = codes "uxtb"
extend_base true true = codes "uxth"

abbrev pub word_base : (load byte : Bool) → List ℕ
word_base true false = codes "ldr"
word_base true true = codes "ldrb"
word_base false false = codes "str"
word_base false true = codes "strb"

-- a block's words: `i` upwards from the base or `d` downwards to it, and `b` before each word or `a` after it
abbrev pub block_base : (load before up : Bool) → List ℕ
block_base true false true = codes "ldmia"
block_base true true true = codes "ldmib"
block_base true false false = codes "ldmda"
block_base true true false = codes "ldmdb"
block_base false false true = codes "stmia"
block_base false true true = codes "stmib"
block_base false false false = codes "stmda"
block_base false true false = codes "stmdb"

abbrev pub load_exclusive_base : Size → List ℕ
load_exclusive_base B1 = codes "ldrexb"
load_exclusive_base B2 = codes "ldrexh"
load_exclusive_base B4 = codes "ldrex"
load_exclusive_base B8 = codes "ldrexd"

abbrev pub store_exclusive_base : Size → List ℕ
store_exclusive_base B1 = codes "strexb"
store_exclusive_base B2 = codes "strexh"
store_exclusive_base B4 = codes "strex"
store_exclusive_base B8 = codes "strexd"

abbrev pub base_of : Operation → List ℕ
base_of (Alu op) = alu_base op
base_of Movw = codes "movw"
base_of Movt = codes "movt"
base_of Nop = codes "nop"
base_of Yield = codes "yield"
base_of Mul = codes "mul"
base_of Mla = codes "mla"
base_of Mls = codes "mls"
base_of (Long kind) = long_base kind
base_of Clz = codes "clz"
base_of Rev = codes "rev"
base_of (Extend unsigned half) = extend_base unsigned half
base_of (Word load byte) = word_base load byte
base_of (Half kind) = half_base kind
base_of (Block load before up) = block_base load before up
base_of (Branch link) = if link then codes "bl" else codes "b"
base_of (BranchReg link) = if link then codes "blx" else codes "bx"
base_of Svc = codes "svc"
base_of (LoadEx size) = load_exclusive_base size
base_of (StoreEx size) = store_exclusive_base size
base_of Clrex = codes "clrex"
base_of (Barrier kind) = barrier_base kind

-- the operations that may set the flags by an `s`: a compare always does, and has none
abbrev pub may_set_flags : Operation → Bool
may_set_flags (Alu op) = not (is_compare op)
may_set_flags Mul = true
may_set_flags Mla = true
may_set_flags (Long kind) = true
may_set_flags _ = false

-- the operations that may have a condition (DDI 0406C A5.7: the others are unconditional)
abbrev pub may_have_condition : Operation → Bool
may_have_condition Clrex = false
may_have_condition (Barrier kind) = false
may_have_condition _ = true

-- the conditions by number (DDI 0406C A8.3); the one that always holds is shown by nothing
abbrev pub conditions : List ℕ
conditions = codes "eq ne cs cc mi pl vs vc hi ls ge lt gt le"

abbrev pub condition_name : ℕ → List ℕ
condition_name number = slice_index_or (names_in conditions) number []

abbrev pub condition_of : List ℕ → Option ℕ
condition_of [] = Some always
condition_of (code ∷ word) = place_from 0 (names_in conditions) (code ∷ word)

abbrev pub flags_text : Bool → List ℕ
flags_text set_flags = if set_flags then codes "s" else []

-- the word of a mnemonic
abbrev pub mnemonic_text : Mnemonic → List ℕ
mnemonic_text mnemonic = base_of mnemonic.operation ++ (flags_text mnemonic.set_flags ++ condition_name mnemonic.cond)

-- a mnemonic that there is: `s` only where there may be one, and a condition other than always only where there may be one
abbrev pub is_mnemonic : Mnemonic → Bool
is_mnemonic mnemonic =
    (may_set_flags mnemonic.operation || not mnemonic.set_flags)
    && (if may_have_condition mnemonic.operation then nat_lt mnemonic.cond 15 else mnemonic.cond == always)

-- Which mnemonic a word is.

-- every operation
abbrev pub operations : List Operation
operations =
    Alu And ∷ Alu Eor ∷ Alu Sub ∷ Alu Rsb ∷ Alu Add ∷ Alu Adc ∷ Alu Sbc ∷ Alu Rsc ∷
    Alu Tst ∷ Alu Teq ∷ Alu Cmp ∷ Alu Cmn ∷ Alu Orr ∷ Alu Mov ∷ Alu Bic ∷ Alu Mvn ∷
    Movw ∷ Movt ∷ Nop ∷ Yield ∷ Mul ∷ Mla ∷ Mls ∷
    Long Umull ∷ Long Umlal ∷ Long Smull ∷ Long Smlal ∷ Clz ∷ Rev ∷
    Extend false false ∷ Extend false true ∷ Extend true false ∷ Extend true true ∷
    Word true false ∷ Word false false ∷ Word true true ∷ Word false true ∷
    Half Ldrh ∷ Half Strh ∷ Half Ldrsb ∷ Half Ldrsh ∷
    Block true false true ∷ Block true true true ∷ Block true false false ∷ Block true true false ∷
    Block false false true ∷ Block false true true ∷ Block false false false ∷ Block false true false ∷
    Branch false ∷ Branch true ∷ BranchReg false ∷ BranchReg true ∷ Svc ∷
    LoadEx B4 ∷ LoadEx B8 ∷ LoadEx B1 ∷ LoadEx B2 ∷
    StoreEx B4 ∷ StoreEx B8 ∷ StoreEx B1 ∷ StoreEx B2 ∷
    Clrex ∷ Barrier Dsb ∷ Barrier Dmb ∷ Barrier Isb ∷ []

abbrev pub mnemonic : Operation → Bool → ℕ → Mnemonic
mnemonic operation set_flags cond = record { operation = operation; set_flags = set_flags; cond = cond }

-- what stands behind the base: nothing, or a condition where there may be one
abbrev pub with_condition : Operation → Bool → List ℕ → Option Mnemonic
with_condition operation set_flags [] = Some (mnemonic operation set_flags always)
with_condition operation set_flags (code ∷ word) =
    if may_have_condition operation
    then option_map (mnemonic operation set_flags) (condition_of (code ∷ word))
    else None

-- an `s`, where there may be one, and a condition behind it
unfoldable pub with_flags : Operation → List ℕ → Option Mnemonic
with_flags operation [] = with_condition operation false []
with_flags operation (code ∷ word) =
    if may_set_flags operation && (code == 115)
    then with_condition operation true word
    else with_condition operation false (code ∷ word)

-- a word that begins with an operation's base
unfoldable pub as_operation : List ℕ → Operation → Option Mnemonic
as_operation word operation =
    if starts_with nat_eq word (base_of operation) then with_flags operation (drop (length (base_of operation)) word) else None

abbrev pub or_mnemonic : Option Mnemonic → Option Mnemonic → Option Mnemonic
or_mnemonic (Some found) other = Some found
or_mnemonic None other = other

-- the first operation as which a word can be read (there is no other: no word is two mnemonics)
unfoldable pub read_among : List Operation → List ℕ → Option Mnemonic
read_among [] word = None
read_among (operation ∷ operations) word = or_mnemonic (as_operation word operation) (read_among operations word)

abbrev pub mnemonic_of : List ℕ → Option Mnemonic
mnemonic_of word = read_among operations word
