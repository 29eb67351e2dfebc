-- The word has no condition, and its row nothing that is unpredictable.
use Rattle.std.proofs.Common.{◌≡◌, IsTrue, Result, Ok, Err, arith, refl}
use Rattle.llsc_base.specs.declared.decoding.DecodeFault.{DecodeFault}
use Rattle.llsc_base.specs.declared.decoding.DecodeFault.TheVariants.{Undefined, Unpredictable}
use Rattle.a32_instr.specs.declared.instructions.Instr.{Instr}
use Rattle.a32_instr.specs.declared.instructions.Instr.TheVariants.{Clrex, Nop}
use Rattle.a32_instr.specs.Table.{clrex, fits}
use Rattle.a32_runs.proofs.worked_rows.rows_that_are_not_apart.Goals as goal

fitting : IsTrue (fits clrex 0xF57FF01F)
fitting = refl

-- what is a CLREX is neither of the faults, and no other instruction
never_undefined : (told : Result Instr DecodeFault) → told ≡ Err Undefined → told ≡ Ok Clrex → ⊥
never_undefined told undefined clears = cc

never_unpredictable : (told : Result Instr DecodeFault) → told ≡ Err Unpredictable → told ≡ Ok Clrex → ⊥
never_unpredictable told unpredictable clears = cc

never_a_nop : (told : Result Instr DecodeFault) → told ≡ Ok (Nop 14) → told ≡ Ok Clrex → ⊥
never_a_nop told nop clears = cc

pub returns-clause-not_apart : goal.returns-clause-not_apart
returns-clause-not_apart c = λ apart. apart 0xF57FF01F (omega arith) fitting fitting

pub returns-clause-fits_one : goal.returns-clause-fits_one
returns-clause-fits_one c = λ none. none 0 clrex (omega arith) fitting

pub returns-clause-not_undefined : goal.returns-clause-not_undefined
returns-clause-not_undefined c = λ means. never_undefined (Err Undefined) refl (means 0 clrex (omega arith) fitting)

pub returns-clause-not_unpredictable : goal.returns-clause-not_unpredictable
returns-clause-not_unpredictable c = λ means. never_unpredictable (Err Unpredictable) refl (means 0 clrex (omega arith) fitting)

pub returns-clause-another : goal.returns-clause-another
returns-clause-another c = λ means. never_a_nop (Ok (Nop 14)) refl (means 0 clrex (omega arith) fitting)
