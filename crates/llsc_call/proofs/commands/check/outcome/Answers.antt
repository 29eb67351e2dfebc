use Rattle.llsc_call.specs.Check.{IsJudged}
use Rattle.llsc_call.proofs.RecordFiles.{files_had, files_refused}
use Rattle.llsc_call.proofs.commands.check.outcome.Goals as goal

pub returns-in-Ok : goal.returns-in-Ok
returns-in-Ok c =
    files_had IsJudged c.args.format c.args.mem c.args.file.items c.args.recorded.items c.in-Ok.field-0 c.judge.result c.requires.short c.requires.few
    c.in-Ok.ensures.had c.judge.ensures

pub returns-in-Err : goal.returns-in-Err
returns-in-Err c =
    files_refused IsJudged c.args.format c.args.mem c.args.file.items c.args.recorded.items c.from.result c.in-Err.refusal c.requires.short c.requires.few c.from.ensures
    c.in-Err.ensures.refused
