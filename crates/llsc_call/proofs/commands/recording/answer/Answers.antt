use Rattle.llsc_words.specs.Request.{machine_by}
use Rattle.llsc_words.specs.declared.sets.SetName.TheVariants.{A32}
use Rattle.llsc_files.specs.Programs.{image_of, program_refusal}
use Rattle.llsc_call.specs.Record.{RecordsRun}
use Rattle.llsc_call.proofs.Outcomes.{run_loaded, run_refused}
use Rattle.llsc_call.proofs.commands.recording.answer.Goals as goal

pub returns-in-Ok : goal.returns-in-Ok
returns-in-Ok g c =
    let n = c.args.numbers in
    let size = machine_by n.machine in
    run_loaded (λ story program size. RecordsRun story program size n.budget) A32 c.args.format size c.args.file.items c.in-Ok.loaded c.record_run.result.outcome c.record_run.result.story
    c.in-Ok.ensures.loaded c.record_run.ensures

pub returns-in-Err : goal.returns-in-Err
returns-in-Err g c =
    let n = c.args.numbers in
    let size = machine_by n.machine in
    run_refused (program_refusal c.args.format size c.args.file.items) (λ story. RecordsRun story (image_of c.args.format c.args.file.items size) size n.budget)
    c.from.result (c.from-in-Err).result.outcome (c.from-in-Err).result.story c.in-Err.refusal (c.from-in-Err).ensures.outcome (c.from-in-Err).ensures.story c.from.ensures
    c.in-Err.ensures.refused
