use Rattle.std.proofs.Common.{sym, ap, ◌∙◌, rules, w32}
use Rattle.std.proofs.lemmas.Int.{to_z-of_z}
use Rattle.a32_instr.specs.declared.instructions.Instr.TheVariants.{Branch}
use Rattle.a32_step.proofs.lowered.Lowered.with_branch.Goals as goal

pub returns : goal.returns
returns c = c.with_distance.ensures c.in-Branch.cond (c.in-Branch.is ∙ ap (Branch c.in-Branch.cond c.in-Branch.link) (sym (to_z-of_z w32 c.in-Branch.words (search rules))))
