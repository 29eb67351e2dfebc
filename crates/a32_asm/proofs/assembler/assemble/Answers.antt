use Rattle.std.proofs.Common.{rules}
use Rattle.a32_asm.proofs.UnitLimits.{made_within}
use Rattle.a32_asm.proofs.assembler.assemble.Goals as goal

pub returns-clause-within : goal.returns-clause-within
returns-clause-within c = made_within c.args.text.now c.assemble_lines.result (search rules)
