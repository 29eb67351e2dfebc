use Rattle.llsc_words.specs.Request.{machine_by}
use Rattle.llsc_files.specs.Programs.{image_of}
use Rattle.llsc_files.specs.Refusals.{solo_size}
use Rattle.llsc_call.specs.Answer.{IsReported}
use Rattle.llsc_call.proofs.Outcomes.{file_loaded, file_refused}
use Rattle.llsc_call.proofs.commands.solo.outcome.Goals as goal

pub returns-in-Ok : goal.returns-in-Ok
returns-in-Ok c =
    file_loaded (λ program size. IsReported program size c.args.budget) c.args.format (machine_by c.numbers_of-numbers.result) (solo_size c.args.mem) c.args.file.items c.in-Ok.loaded c.run.result
    c.numbers_of-numbers.ensures c.in-Ok.ensures.loaded c.run.ensures

pub returns-in-Err : goal.returns-in-Err
returns-in-Err c =
    let size = solo_size c.args.mem in
    file_refused (IsReported (image_of c.args.format c.args.file.items size) size c.args.budget) c.args.format (machine_by c.numbers_of-numbers.result) size c.args.file.items c.from.result
    c.in-Err.refusal c.numbers_of-numbers.ensures c.from.ensures c.in-Err.ensures.refused
