use Rattle.std.proofs.Common.{◌≡◌, ◌+◌, ◌∷◌, [], length, Some, None, sym, ap, ◌∙◌, arith}
use Rattle.std.proofs.lemmas.List.{nil_from_length}
use Rattle.a32_forms.specs.Text.{parts}
use Rattle.a32_forms.specs.Cuts.{before_code, from_code}
use Rattle.a32_forms.specs.Forms.{form_in, takes}
use Rattle.a32_forms.specs.Within.{are_within, has_room}
use Rattle.a32_forms.proofs.CutTexts.{before_from}
use Rattle.a32_forms.proofs.Matches.{form_here, form_next, form_end, room_here, room_next, place_here, place_less, place_next}
use Rattle.a32_forms.proofs.forms.chosen.Goals as goal

pub fields_of-requires : goal.fields_of-requires
fields_of-requires c = ap has_room c.before_code.ensures ∙ room_here c.loop-fields.left.now c.loop-fields.invariant.1

pub returns-in-Some-clause-form : goal.returns-in-Some-clause-form
returns-in-Some-clause-form c =
    let fits : Some c.in-Some.fields ≡ takes (before_code 124 c.loop-fields.left.now) (parts c.args.text.now) =
    c.in-Some.ensures.fields ∙ ap (λ form. takes form (parts c.args.text.now)) c.before_code.ensures in
    ap Some c.new.ensures
    ∙ sym (form_here c.loop-fields.form c.loop-fields.left.now (parts c.args.text.now) c.in-Some.fields fits)
    ∙ c.loop-fields.invariant.0

pub returns-in-Some-clause-place : goal.returns-in-Some-clause-place
returns-in-Some-clause-place c =
    let less = place_less c.args.forms.now c.loop-fields.left.now c.loop-fields.form c.loop-fields.invariant.2 in
    let is = ap (λ found. found.form) c.new.ensures in omega arith

pub returns-in-Some-clause-within : goal.returns-in-Some-clause-within
returns-in-Some-clause-within c =
    ap (λ found. are_within (form_in c.args.forms.now found.form) found.fields.numbers) c.new.ensures
    ∙ ap (λ form. are_within form c.in-Some.fields.numbers) (place_here c.args.forms.now c.loop-fields.left.now c.loop-fields.form c.loop-fields.invariant.2 ∙ sym c.before_code.ensures)
    ∙ c.in-Some.ensures.within

pub returns-in_err-after-clause-form : goal.returns-in_err-after-clause-form
returns-in_err-after-clause-form c =
    let none : None ≡ takes (before_code 124 c.loop-fields.left.now) (parts c.args.text.now) =
    c.in_default.ensures.fields ∙ ap (λ form. takes form (parts c.args.text.now)) c.before_code.ensures in
    let end : from_code 124 c.loop-fields.left.now ≡ [] = sym c.from_code.ensures ∙ nil_from_length c.from_code.result.now c.in_err-after.ensures.cases in
    c.from_residual.ensures ∙ sym (form_end c.loop-fields.form c.loop-fields.left.now (parts c.args.text.now) none end) ∙ c.loop-fields.invariant.0

pub loop-fields-smaller : goal.loop-fields-smaller
loop-fields-smaller c =
    let shorter = before_from 124 c.loop-fields.left.now in
    let is : length (from_code 124 c.loop-fields.left.now) ≡ 1 + length c.in_ok-after.after.now = ap length (sym c.from_code.ensures ∙ c.in_ok-after.ensures.cases.0) ∙ omega arith in
    omega arith

pub loop-fields-preserved : goal.loop-fields-preserved
loop-fields-preserved c =
    let none : None ≡ takes (before_code 124 c.loop-fields.left.now) (parts c.args.text.now) =
    c.in_default.ensures.fields ∙ ap (λ form. takes form (parts c.args.text.now)) c.before_code.ensures in
    let next : from_code 124 c.loop-fields.left.now ≡ c.in_ok-after.field-0-0.now ∷ c.in_ok-after.after.now = sym c.from_code.ensures ∙ c.in_ok-after.ensures.cases.0 in
    let shorter = before_from 124 c.loop-fields.left.now in
    let is : length (from_code 124 c.loop-fields.left.now) ≡ 1 + length c.in_ok-after.after.now = ap length next ∙ omega arith in (
      sym (form_next c.loop-fields.form c.in_ok-after.field-0-0.now c.loop-fields.left.now c.in_ok-after.after.now (parts c.args.text.now) none next) ∙ c.loop-fields.invariant.0,
      room_next c.loop-fields.left.now c.in_ok-after.after.now c.in_ok-after.field-0-0.now c.loop-fields.invariant.1 next,
      place_next c.args.forms.now c.loop-fields.left.now c.in_ok-after.after.now c.loop-fields.form c.in_ok-after.field-0-0.now c.loop-fields.invariant.2 next,
      omega arith,
    )
