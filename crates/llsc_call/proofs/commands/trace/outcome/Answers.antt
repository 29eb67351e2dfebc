use Rattle.llsc_words.specs.Request.{machine_by}
use Rattle.llsc_files.specs.Programs.{image_of}
use Rattle.llsc_files.specs.Refusals.{machine_of}
use Rattle.llsc_call.specs.Trace.{Traces}
use Rattle.llsc_call.proofs.Outcomes.{file_loaded, file_refused}
use Rattle.llsc_call.proofs.commands.trace.outcome.Goals as goal

pub returns-in-Ok : goal.returns-in-Ok
returns-in-Ok c =
    let n = c.args.numbers in
    file_loaded (λ program size. Traces program size n.seed n.budget) c.args.format (machine_by c.numbers_of-machine.result) (machine_of n.mem n.threads n.granule) c.args.file.items
    c.in-Ok.loaded c.run.result c.numbers_of-machine.ensures c.in-Ok.ensures.loaded c.run.ensures

pub returns-in-Err : goal.returns-in-Err
returns-in-Err c =
    let n = c.args.numbers in
    let size = machine_of n.mem n.threads n.granule in
    file_refused (Traces (image_of c.args.format c.args.file.items size) size n.seed n.budget) c.args.format (machine_by c.numbers_of-machine.result) size c.args.file.items c.from.result
    c.in-Err.refusal c.numbers_of-machine.ensures c.from.ensures c.in-Err.ensures.refused
