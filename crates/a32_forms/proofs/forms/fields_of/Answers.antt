use Rattle.std.proofs.Common.{sym, ◌∙◌}
use Rattle.a32_forms.specs.Text.{parts}
use Rattle.a32_forms.specs.inner.Took.{took_of}
use Rattle.a32_forms.proofs.Matches.{sign_refuses, sign_takes, form_done, form_left, room_left, sign_within, all_within}
use Rattle.a32_forms.proofs.forms.fields_of.Goals as goal

pub take_sign-requires : goal.take_sign-requires
take_sign-requires c = λ one. room_left c.args.form.now c.loop-sign.fields.numbers c.loop-sign.sign-index c.requires c.loop-sign.invariant.1 c.loop-sign-test.true one

pub returns-in_err-taken-clause-fields : goal.returns-in_err-taken-clause-fields
returns-in_err-taken-clause-fields c =
    c.from_residual.ensures
    ∙ sym (sign_refuses c.args.form.now c.loop-sign.sign-index c.loop-sign.fields (parts c.loop-sign.rest.now) c.loop-sign-test.true c.in_err-taken.ensures)
    ∙ c.loop-sign.invariant.0

pub loop-sign-preserved : goal.loop-sign-preserved
loop-sign-preserved c = (
  sym (sign_takes c.args.form.now c.loop-sign.sign-index c.loop-sign.fields (parts c.loop-sign.rest.now) (took_of c.in_ok-taken.taken) c.loop-sign-test.true c.in_ok-taken.ensures)
      ∙ c.loop-sign.invariant.0,
  sign_within c.args.form.now c.loop-sign.sign-index c.loop-sign.fields c.loop-sign.rest.now (took_of c.in_ok-taken.taken) c.loop-sign-test.true c.in_ok-taken.ensures c.loop-sign.invariant.1,
)

pub returns-in_default-clause-fields : goal.returns-in_default-clause-fields
returns-in_default-clause-fields c =
    sym (form_left c.args.form.now c.loop-sign.sign-index c.loop-sign.fields (parts c.loop-sign.rest.now) c.front_part.result c.loop-sign-test.false c.in_default.not-End c.front_part.ensures)
    ∙ c.loop-sign.invariant.0

pub returns-clause-fields : goal.returns-clause-fields
returns-clause-fields c =
    sym (form_done c.args.form.now c.loop-sign.sign-index c.loop-sign.fields (parts c.loop-sign.rest.now) c.loop-sign-test.false c.in-End.ensures)
    ∙ c.loop-sign.invariant.0

pub returns-clause-within : goal.returns-clause-within
returns-clause-within c = all_within c.args.form.now c.loop-sign.fields.numbers c.loop-sign.sign-index c.loop-sign-test.false c.loop-sign.invariant.1
