use Rattle.std.proofs.Common.{◌≡◌, inl, inr, Ok, Err, sym, ◌∙◌, ap, subst, codes}
use Rattle.a32_asm.specs.Assembled.{unit_of}
use Rattle.llsc_texts.specs.Assembly.{asm_answer, asm_fault_text, IsGiven}
use Rattle.llsc_texts.proofs.AsmAnswers.{asm_no_text, asm_text, given_refused}
use Rattle.llsc_texts.proofs.asm.assembled.Goals as goal

pub returns-in_default : goal.returns-in_default
returns-in_default c =
    given_refused (codes "NotText") (asm_answer c.args.format c.args.file.now) c.refuse.result (asm_no_text c.args.format c.args.file.now c.requires c.in_default.ensures.cases.0) c.refuse.ensures

pub returns-in-Ok-assemble : goal.returns-in-Ok-assemble
returns-in-Ok-assemble c =
    let made : unit_of c.args.file.now ≡ Ok c.in-Ok-assemble.unit = ap unit_of (sym c.in-Ok.ensures.cases.0) ∙ c.in-Ok-assemble.ensures.unit in
    subst (λ a. IsGiven a c.file_for.result) (asm_text c.args.format c.args.file.now (Ok c.in-Ok-assemble.unit) c.requires c.in-Ok.ensures.cases.1 made) c.file_for.ensures

pub returns-in-Err : goal.returns-in-Err
returns-in-Err c =
    elim c.in-Err.ensures.fault [
      | inl wanting ↦ rw (c.refuse_text.ensures.memory (ap (λ f. f.kind) wanting)) tt
      | inr is ↦
          let made : unit_of c.args.file.now ≡ Err c.in-Err.fault = ap unit_of (sym c.in-Ok.ensures.cases.0) ∙ is in
          given_refused (asm_fault_text c.in-Err.fault) (asm_answer c.args.format c.args.file.now) c.refuse_text.result
          (asm_text c.args.format c.args.file.now (Err c.in-Err.fault) c.requires c.in-Ok.ensures.cases.1 made) c.refuse_text.ensures.named
    ]
