use Rattle.llsc_words.specs.Request.{size_of_run}
use Rattle.llsc_files.specs.Programs.{image_of, program_refusal_as}
use Rattle.llsc_call.specs.Run.{ReportsRun}
use Rattle.llsc_call.proofs.Outcomes.{run_loaded, run_refused}
use Rattle.llsc_call.proofs.commands.run.answer.Goals as goal

pub returns-in-Ok : goal.returns-in-Ok
returns-in-Ok g c =
    let n = c.args.numbers in
    run_loaded (λ story program size. ReportsRun c.args.set story program size n.machine.threads n.spare n.budget) c.args.set c.args.format (size_of_run n) c.args.file.items c.in-Ok.loaded
    c.run_of.result.outcome c.run_of.result.story c.in-Ok.ensures.loaded c.run_of.ensures

pub returns-in-Err : goal.returns-in-Err
returns-in-Err g c =
    let n = c.args.numbers in
    let size = size_of_run n in
    let file = c.args.file.items in
    run_refused (program_refusal_as c.args.set c.args.format size file) (λ story. ReportsRun c.args.set story (image_of c.args.format file size) size n.machine.threads n.spare n.budget)
    c.from.result (c.from-in-Err).result.outcome (c.from-in-Err).result.story c.in-Err.refusal (c.from-in-Err).ensures.outcome (c.from-in-Err).ensures.story c.from.ensures
    c.in-Err.ensures.refused
