use Rattle.std.proofs.Common.{◌≡◌, None, sym, subst}
use Rattle.llsc_words.specs.Request.{machine_by}
use Rattle.llsc_files.specs.Refusals.{IsRefusal, too_long, most_program}
use Rattle.llsc_files.specs.Programs.{program_refusal_as}
use Rattle.llsc_files.proofs.Answering.{passed_on, refused_short, refused_unsized}
use Rattle.llsc_files.proofs.files.load_as.Goals as goal

pub returns-in_err-size-clause-refused : goal.returns-in_err-size-clause-refused
returns-in_err-size-clause-refused c =
    let size = machine_by c.args.numbers in
    passed_on c.from_residual.result c.from_residual.ensures.1
    (λ r same. subst (IsRefusal (program_refusal_as c.args.set c.args.format size c.args.file.items)) (sym same)
    (refused_unsized c.args.set c.args.format size c.args.file.items c.in_err-size.field-0.0 c.in_err-size.ensures.refused))

pub returns-in_err-image-clause-refused : goal.returns-in_err-image-clause-refused
returns-in_err-image-clause-refused c =
    let size = machine_by c.args.numbers in
    let file = c.as_slice.result.now in
    let none = c.in_ok-size.ensures.size.1 in
    let short : too_long most_program file ≡ None = rw c.as_slice.ensures.value c.requires in
    passed_on c.from_residual-in_err-image.result c.from_residual-in_err-image.ensures.1
    (λ r same. subst (IsRefusal (program_refusal_as c.args.set c.args.format size c.args.file.items)) (sym same)
    (rw (← c.as_slice.ensures.value) (refused_short c.args.set c.args.format c.in_ok-size.size size file c.in_err-image.field-0.0 none c.in_ok-size.ensures.size.0 short c.in_err-image.ensures.refused)))
