use Rattle.std.proofs.Common.{◌≡◌, IsTrue, Result, Ok, Err, arith, refl}
use Rattle.llsc_base.specs.declared.decoding.DecodeFault.{DecodeFault}
use Rattle.llsc_base.specs.declared.decoding.DecodeFault.TheVariants.{Undefined}
use Rattle.rv32_guest.specs.declared.instructions.RvInstr.{RvInstr}
use Rattle.rv32_guest.specs.declared.instructions.RvInstr.TheVariants.{Ecall, Fence}
use Rattle.rv32_guest.specs.Table.{ecall, fits}
use Rattle.rv32_guest.proofs.laws.rows_that_are_not_apart.Goals as goal

-- the word fits the row
fitting : IsTrue (fits ecall 0x73)
fitting = refl

-- what is a call is not undefined, and no fence
never_undefined : (told : Result RvInstr DecodeFault) → told ≡ Err Undefined → told ≡ Ok Ecall → ⊥
never_undefined told undefined call = cc

never_a_fence : (told : Result RvInstr DecodeFault) → told ≡ Ok Fence → told ≡ Ok Ecall → ⊥
never_a_fence told fence call = cc

pub returns-clause-not_apart : goal.returns-clause-not_apart
returns-clause-not_apart c = λ apart. apart 0x73 fitting fitting

pub returns-clause-fits_one : goal.returns-clause-fits_one
returns-clause-fits_one c = λ none. none 0 ecall (omega arith) fitting

pub returns-clause-not_undefined : goal.returns-clause-not_undefined
returns-clause-not_undefined c = λ means. never_undefined (Err Undefined) refl (means 0 ecall (omega arith) fitting)

pub returns-clause-another : goal.returns-clause-another
returns-clause-another c = λ means. never_a_fence (Ok Fence) refl (means 0 ecall (omega arith) fitting)
