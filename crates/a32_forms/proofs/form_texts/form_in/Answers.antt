use Rattle.std.proofs.Common.{◌≡◌, ◌∷◌, [], ℕ, drop, sym, ◌∙◌, subst, arith}
use Rattle.std.proofs.lemmas.List.{nil_from_length}
use Rattle.a32_forms.specs.Cuts.{from_code}
use Rattle.a32_forms.specs.Forms.{forms_in}
use Rattle.a32_forms.proofs.FormTexts.{none_there}
use Rattle.a32_forms.proofs.Matches.{place_here, place_next}
use Rattle.a32_forms.proofs.form_texts.form_in.Goals as goal

pub returns-in_default : goal.returns-in_default
returns-in_default c =
    let end : from_code 124 c.loop-place.left.now ≡ [] = sym c.from_code.ensures ∙ nil_from_length c.from_code.result.now c.in_default.ensures.cases in
    sym (none_there c.args.forms.now c.loop-place.left.now c.loop-place.place c.args.at c.loop-place.invariant end c.loop-place-test.true)

pub loop-place-preserved : goal.loop-place-preserved
loop-place-preserved c =
    let next : from_code 124 c.loop-place.left.now ≡ c.in-Some.field-0-0.now ∷ c.in-Some.after.now = sym c.from_code.ensures ∙ c.in-Some.ensures.cases.0 in
    place_next c.args.forms.now c.loop-place.left.now c.in-Some.after.now c.loop-place.place c.in-Some.field-0-0.now c.loop-place.invariant next

pub returns : goal.returns
returns c =
    let last : c.loop-place.place ≡ c.args.at = omega arith in
    let left : drop c.args.at (forms_in c.args.forms.now) ≡ forms_in c.loop-place.left.now =
    subst (λ (n : ℕ). drop n (forms_in c.args.forms.now) ≡ forms_in c.loop-place.left.now) last c.loop-place.invariant in
    c.before_code.ensures ∙ sym (place_here c.args.forms.now c.loop-place.left.now c.args.at left)
