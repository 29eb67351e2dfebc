-- The forms of the operands of each operation, in the order in which they are tried (the signs of a form are those of
-- the forms of operands).
use Rattle.std.specs.Prelude.{ℕ, ◌||◌, if◌then◌else◌, List, codes}
use Rattle.llsc_base.specs.declared.access.Size.{Size}
use Rattle.llsc_base.specs.declared.access.Size.TheVariants.{B8}
use Rattle.a32_instr.specs.Fields.{is_compare, is_move}
use Rattle.a32_syntax.specs.declared.operations.Operation.{Operation}
use Rattle.a32_syntax.specs.declared.operations.Operation.TheVariants.{Alu, Movw, Movt, Nop, Yield, Mul, Mla, Mls, Long, Clz, Rev, Extend, Word, Half, Block, Branch, BranchReg, Svc, LoadEx, StoreEx, Clrex, Barrier}

-- Data processing: the destination and the first operand, or one of them at a move and a compare, and the second
-- operand: a number, an immediate with its turn, a register, one that is shifted by a number, one that is turned through
-- the carry, one that is shifted by a register (DDI 0406C A8.4).

abbrev pub three_operands : List ℕ
three_operands = codes "r, r, #n|r, r, #n, #n|r, r, r|r, r, r, k #n|r, r, r, X|r, r, r, k r"

abbrev pub two_operands : List ℕ
two_operands = codes "r, #n|r, #n, #n|r, r|r, r, k #n|r, r, X|r, r, k r"

-- the places of the second operand's forms among them
abbrev pub as_number : ℕ
as_number = 0

abbrev pub as_turned_number : ℕ
as_turned_number = 1

abbrev pub as_register : ℕ
as_register = 2

abbrev pub as_shifted_by_number : ℕ
as_shifted_by_number = 3

abbrev pub as_turned_through_carry : ℕ
as_turned_through_carry = 4

abbrev pub as_shifted_by_register : ℕ
as_shifted_by_register = 5

-- A load or a store of a word or a byte (DDI 0406C A8.8.63, A8.8.64, A8.8.66, A8.8.68 to A8.8.70, A8.8.204, A8.8.205,
-- A8.8.207, A8.8.208): the base alone; the base moved by a number, by a register, by one that is shifted by a number or
-- turned through the carry, and written back where `!` stands; and the same behind the base.

abbrev pub word_operands : List ℕ
word_operands =
    codes "r, [r]|r, [r, #~n]!|r, [r, ~r]!|r, [r, ~r, k #n]!|r, [r, ~r, X]!|r, [r], #~n|r, [r], ~r|r, [r], ~r, k #n|r, [r], ~r, X"

-- of a halfword or a signed byte, whose register isn't shifted (DDI 0406C A8.8.80 to A8.8.82, A8.8.84 to A8.8.86,
-- A8.8.88 to A8.8.90, A8.8.217, A8.8.218)
abbrev pub half_operands : List ℕ
half_operands = codes "r, [r]|r, [r, #~n]!|r, [r, ~r]!|r, [r], #~n|r, [r], ~r"

-- the places of the forms of an address among them: the base alone, the base moved by each kind of offset, and each kind behind the
-- base
abbrev pub at_base_alone : ℕ
at_base_alone = 0

abbrev pub moved_by_number : ℕ
moved_by_number = 1

abbrev pub moved_by_register : ℕ
moved_by_register = 2

abbrev pub moved_by_shifted : ℕ
moved_by_shifted = 3

abbrev pub moved_by_turned : ℕ
moved_by_turned = 4

abbrev pub behind_by_number : ℕ
behind_by_number = 5

abbrev pub behind_by_register : ℕ
behind_by_register = 6

abbrev pub behind_by_shifted : ℕ
behind_by_shifted = 7

-- and of a halfword or a signed byte behind it
abbrev pub half_behind_by_number : ℕ
half_behind_by_number = 3

-- how many places further on each kind stands behind the base
abbrev pub word_places_on : ℕ
word_places_on = 4

abbrev pub half_places_on : ℕ
half_places_on = 2

-- of registers in a block: the base, `!` where it is written back, and the registers (DDI 0406C A8.8.58 to A8.8.61,
-- A8.8.199 to A8.8.202)
abbrev pub block_operands : List ℕ
block_operands = codes "r!, {b}"

-- an exclusive of a doubleword names both of its registers (DDI 0406C A8.8.77, A8.8.214)
abbrev pub load_exclusive_operands : Size → List ℕ
load_exclusive_operands B8 = codes "r, r, [r]"
load_exclusive_operands _ = codes "r, [r]"

abbrev pub store_exclusive_operands : Size → List ℕ
store_exclusive_operands B8 = codes "r, r, r, [r]"
store_exclusive_operands _ = codes "r, r, [r]"

abbrev pub operands_of : Operation → List ℕ
operands_of (Alu op) = if is_compare op || is_move op then two_operands else three_operands
operands_of Movw = codes "r, #n|r, #L(l)"
operands_of Movt = codes "r, #n|r, #H(l)"
operands_of Nop = codes ""
operands_of Yield = codes ""
operands_of Mul = codes "r, r, r"
operands_of Mla = codes "r, r, r, r"
operands_of Mls = codes "r, r, r, r"
operands_of (Long kind) = codes "r, r, r, r"
operands_of Clz = codes "r, r"
operands_of Rev = codes "r, r"
operands_of (Extend unsigned half) = codes "r, r|r, r, O #n"
operands_of (Word load byte) = word_operands
operands_of (Half kind) = half_operands
operands_of (Block load before up) = block_operands
operands_of (Branch link) = codes "x|l"
operands_of (BranchReg link) = codes "r"
operands_of Svc = codes "#n"
operands_of (LoadEx size) = load_exclusive_operands size
operands_of (StoreEx size) = store_exclusive_operands size
operands_of Clrex = codes ""
operands_of (Barrier kind) = codes "#n|"
