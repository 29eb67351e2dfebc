-- Loads and stores of a word or a byte (DDI 0406C A5.3, A8.5, A8.8.63, A8.8.64, A8.8.66, A8.8.68 to A8.8.70, A8.8.204,
-- A8.8.205, A8.8.207, A8.8.208), and of a halfword or a signed byte (A5.2.8, A8.8.80 to A8.8.82, A8.8.84 to A8.8.86,
-- A8.8.88 to A8.8.90, A8.8.217, A8.8.218).
use Rattle.std.specs.Prelude.{ℕ, ◌+◌, ◌-◌, ◌%◌, ◌^◌, if◌then◌else◌, Bool, true, false, List, [], ◌∷◌, slice_set}
use Rattle.llsc_base.specs.declared.access.Size.TheVariants.{B1, B2, B4}
use Rattle.llsc_base.specs.declared.access.Size.{Size}
use Rattle.llsc_base.specs.declared.access.Place.{Place}
use Rattle.llsc_base.specs.Images.{Program, bar_of}
use Rattle.a32_instr.specs.declared.instructions.Offset.{Offset}
use Rattle.a32_instr.specs.declared.instructions.Offset.TheVariants.{Imm, Shifted}
use Rattle.a32_instr.specs.declared.instructions.Index.{Index}
use Rattle.a32_instr.specs.declared.instructions.Index.TheVariants.{Plain, Pre, Post}
use Rattle.a32_instr.specs.declared.instructions.HalfKind.{HalfKind}
use Rattle.a32_instr.specs.declared.instructions.HalfKind.TheVariants.{Strh, Ldrh, Ldrsb, Ldrsh}
use Rattle.a32_instr.specs.Shift.{shifted_by_number}
use Rattle.a32_instr.specs.Moves.{widened}
use Rattle.llsc_base.specs.declared.outside.Ask.{Ask}
use Rattle.llsc_base.specs.declared.outside.Ask.TheVariants.{Load, Store}
use Rattle.a32_instr.specs.State.{State, Effect, register, advanced, writes}
use Rattle.llsc_base.specs.Effects.{asks_unless, completes, loaded_part}
use Rattle.llsc_base.specs.Words.{low32}

-- whether an offset is added or taken away
abbrev pub is_added : Offset → Bool
is_added (Imm add imm) = add
is_added (Shifted add rm kind amount) = add

-- how far it moves: a number, or a register that is shifted by the number in the word
abbrev pub distance_of : Offset → State → ℕ
distance_of (Imm add imm) state = imm
distance_of (Shifted add rm kind amount) state = (shifted_by_number kind (register state rm) amount state.flags.c).value

-- an address moved up or down, modulo 2 to the 32
abbrev pub moved : ℕ → Bool → ℕ → ℕ
moved base add distance = if add then low32 (base + distance) else low32 (base + (2 ^ 32 - distance))

-- the moved address of a load or a store
abbrev pub moved_address : ℕ → Offset → State → ℕ
moved_address rn offset state = moved (register state rn) (is_added offset) (distance_of offset state)

-- the address that is accessed: the moved one, or with a post index the base
abbrev pub accessed_address : Index → ℕ → ℕ → ℕ
accessed_address Plain base moved = moved
accessed_address Pre base moved = moved
accessed_address Post base moved = base

-- the registers with the moved address in the base register, where the index writes it back
abbrev pub back_regs : Index → ℕ → ℕ → List ℕ → List ℕ
back_regs Plain rn moved regs = regs
back_regs Pre rn moved regs = slice_set regs rn moved
back_regs Post rn moved regs = slice_set regs rn moved

abbrev pub written_back : Index → ℕ → ℕ → State → State
written_back index rn moved state = record state { regs = back_regs index rn moved state.regs }

-- a load asks for its place, and writes what it takes of the reply to its register, with zeros above it, after the
-- write-back
abbrev pub loads : Program → Place → State → ℕ → List ℕ → State → Effect
loads program place back rt [] state = asks_unless (bar_of program place false) place.addr (Load place)
loads program place back rt (reply ∷ _) state = writes back rt (loaded_part place.size reply)

-- a store asks for its place with a value, and is complete with the reply and the write-back
abbrev pub stores : Program → Place → State → ℕ → List ℕ → State → Effect
stores program place back value [] state = asks_unless (bar_of program place true) place.addr (Store place value)
stores program place back value (_ ∷ _) state = completes (advanced back)

-- a byte access has one byte of the register
abbrev pub access_size : Bool → Size
access_size byte = if byte then B1 else B4

abbrev pub part_of : Bool → ℕ → ℕ
part_of byte value = if byte then value % 256 else value

abbrev pub accesses : Program → Bool → Bool → Place → State → ℕ → List ℕ → State → Effect
accesses program load byte place back rt replies state =
    if load
    then loads program place back rt replies state
    else stores program place back (part_of byte (register state rt)) replies state

-- a load or a store, by its base and its moved address
abbrev pub word_by : Program → Bool → Bool → Index → ℕ → ℕ → ℕ → List ℕ → State → Effect
word_by program load byte index rn rt moved replies state =
    accesses program load byte (record { addr = accessed_address index (register state rn) moved; size = access_size byte })
    (written_back index rn moved state) rt replies state

abbrev pub word : Program → Bool → Bool → Index → ℕ → ℕ → Offset → List ℕ → State → Effect
word program load byte index rn rt offset replies state =
    word_by program load byte index rn rt (moved_address rn offset state) replies state

-- A halfword, or a signed byte.

abbrev pub half_size : HalfKind → Size
half_size Strh = B2
half_size Ldrh = B2
half_size Ldrsb = B1
half_size Ldrsh = B2

-- a loaded halfword or byte as 32 bits: with zeros above it, or with its sign (Strh loads nothing, and is never asked for
-- here)
abbrev pub half_value : HalfKind → ℕ → ℕ
half_value Strh part = widened true 16 part
half_value Ldrh part = widened true 16 part
half_value Ldrsb part = widened false 8 part
half_value Ldrsh part = widened false 16 part

-- a load asks for its place, and writes what it takes of the reply to its register, as 32 bits, after the write-back
abbrev pub loads_half : HalfKind → Program → Place → State → ℕ → List ℕ → State → Effect
loads_half kind program place back rt [] state = asks_unless (bar_of program place false) place.addr (Load place)
loads_half kind program place back rt (reply ∷ _) state = writes back rt (half_value kind (loaded_part place.size reply))

abbrev pub half_accesses : HalfKind → Program → Place → State → ℕ → List ℕ → State → Effect
half_accesses Strh program place back rt replies state = stores program place back (register state rt % 2 ^ 16) replies state
half_accesses Ldrh program place back rt replies state = loads_half Ldrh program place back rt replies state
half_accesses Ldrsb program place back rt replies state = loads_half Ldrsb program place back rt replies state
half_accesses Ldrsh program place back rt replies state = loads_half Ldrsh program place back rt replies state

-- a load or a store, by its base and its moved address
abbrev pub half_by : Program → HalfKind → Index → ℕ → ℕ → ℕ → List ℕ → State → Effect
half_by program kind index rn rt moved replies state =
    half_accesses kind program (record { addr = accessed_address index (register state rn) moved; size = half_size kind })
    (written_back index rn moved state) rt replies state

abbrev pub half : Program → HalfKind → Index → ℕ → ℕ → Offset → List ℕ → State → Effect
half program kind index rn rt offset replies state =
    half_by program kind index rn rt (moved_address rn offset state) replies state
