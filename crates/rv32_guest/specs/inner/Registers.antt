-- Only proofs and inner contracts need these words.
-- What the fields of `Registers` stand for, and what holds of them.
use Rattle.std.specs.Prelude.{◌≡◌, ◌%◌, slice_index}
use Rattle.llsc_base.specs.inner.Words.{AreWords}
use Rattle.rv32_guest.specs.State.{RvState}
use Rattle.rv32_guest.specs.declared.registers.Registers.TheInside as fields

abbrev pub state_of : fields.Inside → RvState
state_of registers = record { regs = registers.values; pc = registers.pc }

abbrev pub IsRegisters : fields.Inside → Type 0
IsRegisters registers = (registers.pc % 4 ≡ 0) × AreWords registers.values × (slice_index registers.values 0 ≡ 0)
