use Rattle.std.proofs.Common.{inl, inr, refl, sym, ap, subst, Err}
use Rattle.llsc_files.specs.Refusals.{Answer}
use Rattle.llsc_texts.specs.Assembly.{IsGiven, asm_answer}
use Rattle.llsc_call.proofs.Outcomes.{gives_given}
use Rattle.llsc_call.proofs.commands.asm.outcome.Goals as goal

pub returns-in-Ok : goal.returns-in-Ok
returns-in-Ok c =
    let given = rw c.as_slice.ensures.value at c.in-Ok.ensures in
    inr (record { sayable = tt; done = inl refl; is = (sym (ap (λ (a : Answer). a.status) given), sym (ap (λ (a : Answer). a.text) given)) })

pub returns : goal.returns
returns c =
    let given = subst (λ file. IsGiven (asm_answer c.args.format file) (Err c.in-Err.refusal)) c.as_slice.ensures.value c.in-Err.ensures in
    gives_given (asm_answer c.args.format c.args.file.items) c.from.result c.in-Err.refusal c.from.ensures given
