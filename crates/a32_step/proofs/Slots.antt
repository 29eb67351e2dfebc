-- A word that is remembered with its instruction.
use Rattle.std.proofs.Common.{◌≡◌, Ok, refl}
use Rattle.a32_instr.specs.Fields.{alu_op, alu_fits, alu_unpredictable, index_fits, half_fits}
use Rattle.a32_instr.specs.Table.{meaning, table}
use Rattle.a32_instr.specs.declared.instructions.Instr.TheVariants.{Nop}

pub nop_means : meaning table 0xE320F000 ≡ Ok (Nop 14)
unfolding meaning alu_op alu_fits alu_unpredictable index_fits half_fits
nop_means = refl
