-- A base that isn't below 15 is the PC.
use Rattle.std.proofs.Common.{◌≡◌, rules, true, false}
use Rattle.a32_instr.specs.declared.instructions.Index.TheVariants.{Plain}
use Rattle.a32_instr.specs.declared.instructions.Instr.TheVariants.{Word}
use Rattle.a32_instr.specs.declared.instructions.Offset.TheVariants.{Imm as OffsetImm}
use Rattle.a32_step.proofs.lowered.Lowered.with_word.Goals as goal

pub returns : goal.returns
returns c =
    let word = c.in-Word in
    let load : word.load ≡ true = search rules in
    let byte : word.byte ≡ false = search rules in
    let index : word.index ≡ Plain = search rules in
    let base : word.rn ≡ 15 = c.in_default-of.ensures.pc in
    let is : c.args.instr.now ≡ Word word.cond true false Plain 15 word.rt (OffsetImm c.in-Imm.add c.in-Imm.imm) = cc (word.is, c.in-Imm.is, load, byte, index, base) in
    c.with_literal.ensures word.cond word.rt c.in-Imm.add c.in-Imm.imm is c.in_ok-d.ensures.low c.distance-number.ensures
