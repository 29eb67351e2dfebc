use Rattle.a32_step.proofs.Conditions.{kept_of}
use Rattle.a32_step.proofs.kept.Kept.of.Goals as goal

pub returns-clause-kept : goal.returns-clause-kept
returns-clause-kept c =
    kept_of c.args.instr (record { row = c.row_under.result; lowered = c.of-lowered.result }) c.cond.result c.cond.ensures c.of-lowered.ensures c.row_under.ensures.does
