-- Multiplications (DDI 0406C A5.2.5, and A8.8 for each of them), in unbounded whole numbers.
use Rattle.std.specs.Prelude.{ℕ, ◌+◌, ◌*◌, ◌/◌, ◌^◌, ◌==◌, nat_le, Bool, ℤ, pos, ◌+ℤ◌, ◌-ℤ◌, ◌*ℤ◌}
use Rattle.a32_instr.specs.declared.conditions.Flags.{Flags}
use Rattle.a32_instr.specs.declared.instructions.LongKind.{LongKind}
use Rattle.a32_instr.specs.declared.instructions.LongKind.TheVariants.{Umull, Umlal, Smull, Smlal}
use Rattle.a32_instr.specs.State.{State, Effect, register, advanced, with_register, writes}
use Rattle.llsc_base.specs.Effects.{completes}
use Rattle.llsc_base.specs.Words.{low32, signed, residue}
use Rattle.a32_instr.specs.Shift.{top_bit}
use Rattle.a32_instr.specs.DataProcessing.{with_flags}

-- a multiplication sets N and Z, and keeps C and V
abbrev pub product_flags : Bool → ℕ → Flags → Flags
product_flags negative value flags = record flags { n = negative; z = value == 0 }

-- a product of 32 bits, with the flags where the instruction sets them
abbrev pub multiplied : Bool → ℕ → ℕ → State → Effect
multiplied sets rd value state = writes (with_flags sets (product_flags (top_bit value) value state.flags) state) rd value

abbrev pub multiplies : Bool → ℕ → ℕ → ℕ → State → Effect
multiplies sets rd rn rm state = multiplied sets rd (low32 (register state rn * register state rm)) state

abbrev pub multiplies_and_adds : Bool → ℕ → ℕ → ℕ → ℕ → State → Effect
multiplies_and_adds sets rd rn rm ra state =
    multiplied sets rd (low32 (register state rn * register state rm + register state ra)) state

-- a number less a product, modulo 2 to the 32
unfoldable pub less_product : ℕ → ℕ → ℕ → ℕ
less_product x y z = residue (pos x -ℤ pos (y * z)) (2 ^ 32)

abbrev pub multiplies_and_subtracts : ℕ → ℕ → ℕ → ℕ → State → Effect
multiplies_and_subtracts rd rn rm ra state =
    writes state rd (less_product (register state ra) (register state rn) (register state rm))

-- the whole product of two 32-bit numbers, unsigned or signed
abbrev pub whole_product : LongKind → ℕ → ℕ → ℤ
whole_product Umull x y = pos (x * y)
whole_product Umlal x y = pos (x * y)
whole_product Smull x y = signed x *ℤ signed y
whole_product Smlal x y = signed x *ℤ signed y

-- what is added to it: the accumulating kinds add the 64 bits of their destination
abbrev pub added_to : LongKind → ℕ → ℕ
added_to Umull old = 0
added_to Umlal old = old
added_to Smull old = 0
added_to Smlal old = old

-- the result, modulo 2 to the 64
unfoldable pub long_product : LongKind → ℕ → ℕ → ℕ → ℕ
long_product kind x y old = residue (whole_product kind x y +ℤ pos (added_to kind old)) (2 ^ 64)

-- two registers as one number of 64 bits
abbrev pub joined : State → ℕ → ℕ → ℕ
joined state hi lo = register state hi * 2 ^ 32 + register state lo

-- the two halves of a number of 64 bits in two registers
abbrev pub with_halves : State → ℕ → ℕ → ℕ → State
with_halves state hi lo value = with_register (with_register state lo (low32 value)) hi (value / 2 ^ 32)

-- the state after a result of 64 bits, with the flags where the instruction sets them
abbrev pub with_long : Bool → ℕ → ℕ → ℕ → State → State
with_long sets hi lo value state =
    with_halves (with_flags sets (product_flags (nat_le (2 ^ 63) value) value state.flags) state) hi lo value

abbrev pub after_long : LongKind → Bool → ℕ → ℕ → ℕ → ℕ → State → State
after_long kind sets lo hi rn rm state =
    advanced (with_long sets hi lo (long_product kind (register state rn) (register state rm) (joined state hi lo)) state)

abbrev pub multiplies_long : LongKind → Bool → ℕ → ℕ → ℕ → ℕ → State → Effect
multiplies_long kind sets lo hi rn rm state = completes (after_long kind sets lo hi rn rm state)
