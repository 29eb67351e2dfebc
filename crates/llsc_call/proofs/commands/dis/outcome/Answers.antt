use Rattle.std.proofs.Common.{inl, inr, refl, ap}
use Rattle.llsc_words.specs.Request.{machine_by}
use Rattle.llsc_files.specs.Programs.{image_of, program_refusal}
use Rattle.llsc_files.specs.Refusals.{Answer, Is, solo_size}
use Rattle.llsc_texts.specs.Disassembly.{disassembly}
use Rattle.llsc_call.specs.declared.outcome.Outcome.TheVariants as outcome
use Rattle.llsc_call.proofs.Outcomes.{file_loaded, file_refused, gives_as, unless_is}
use Rattle.llsc_call.proofs.commands.dis.outcome.Goals as goal

pub returns-in-Err : goal.returns-in-Err
returns-in-Err c =
    let size = solo_size c.args.mem in
    let shown : Answer = record { status = 0; text = disassembly (image_of c.args.format c.args.file.items size) } in
    gives_as c.from.result (unless_is shown (program_refusal c.args.format size c.args.file.items))
    (file_refused (Is shown) c.args.format (machine_by c.numbers_of-numbers.result) size c.args.file.items c.from.result
    c.in-Err.refusal c.numbers_of-numbers.ensures c.from.ensures c.in-Err.ensures.refused)

pub returns-in-Ok-new : goal.returns-in-Ok-new
returns-in-Ok-new c =
    let size = solo_size c.args.mem in
    let loaded = c.in-Ok.loaded in
    let shown : Answer = record { status = 0; text = disassembly (image_of c.args.format c.args.file.items size) } in
    gives_as (outcome.Listed c.in-Ok-new.listing) (unless_is shown (program_refusal c.args.format size c.args.file.items))
    (file_loaded (λ program size. Is (record { status = 0; text = disassembly program })) c.args.format (machine_by c.numbers_of-numbers.result) size c.args.file.items loaded
    (outcome.Listed c.in-Ok-new.listing) c.numbers_of-numbers.ensures c.in-Ok.ensures.loaded
    (inr (record { sayable = tt; done = inl refl; is = (refl, ap disassembly c.in-Ok-new.ensures) })))
