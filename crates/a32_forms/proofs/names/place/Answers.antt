use Rattle.std.proofs.Common.{sym, ap, ◌∙◌, ◌≡◌, true, false, ◌+◌, length, [], ◌∷◌, arith}
use Rattle.std.proofs.lemmas.List.{nil_from_length}
use Rattle.std.specs.Str.{bytes_eq}
use Rattle.a32_forms.specs.Cuts.{before_code, from_code}
use Rattle.a32_forms.specs.Names.{names_in}
use Rattle.a32_forms.proofs.CutTexts.{before_from}
use Rattle.a32_forms.proofs.Places.{place_here, place_next, place_end, found_below}
use Rattle.a32_forms.proofs.names.place.Goals as goal

pub returns-then-eq-clause-place : goal.returns-then-eq-clause-place
returns-then-eq-clause-place c =
    let same : bytes_eq (before_code 32 c.loop-word.rest.now) c.args.word.now ≡ true =
    ap (λ name. bytes_eq name c.args.word.now) (sym c.before_code.ensures) ∙ sym c.if-eq.ensures in
    sym (place_here c.loop-word.place c.loop-word.rest.now c.args.word.now same) ∙ c.loop-word.invariant.0

pub returns-then-eq-clause-bound : goal.returns-then-eq-clause-bound
returns-then-eq-clause-bound c =
    found_below c.args.start c.loop-word.place (names_in c.args.names.now) c.args.word.now (returns-then-eq-clause-place c)

pub returns-in_err-after-clause-place : goal.returns-in_err-after-clause-place
returns-in_err-after-clause-place c =
    let other : bytes_eq (before_code 32 c.loop-word.rest.now) c.args.word.now ≡ false =
    ap (λ name. bytes_eq name c.args.word.now) (sym c.before_code.ensures) ∙ sym c.if-eq.ensures in
    let none : from_code 32 c.loop-word.rest.now ≡ [] = sym c.from_code.ensures ∙ nil_from_length c.from_code.result.now c.in_err-after.ensures.cases in
    c.from_residual.ensures ∙ sym (place_end c.loop-word.place c.loop-word.rest.now c.args.word.now other none) ∙ c.loop-word.invariant.0

pub overflow_add-place : goal.overflow_add-place
overflow_add-place c =
    let shorter = before_from 32 c.loop-word.rest.now in
    let is : length (from_code 32 c.loop-word.rest.now) ≡ 1 + length c.in_ok-after.after.now = ap length (sym c.from_code.ensures ∙ c.in_ok-after.ensures.cases.0) ∙ omega arith in
    omega arith

pub loop-word-smaller : goal.loop-word-smaller
loop-word-smaller c =
    let shorter = before_from 32 c.loop-word.rest.now in
    let is : length (from_code 32 c.loop-word.rest.now) ≡ 1 + length c.in_ok-after.after.now = ap length (sym c.from_code.ensures ∙ c.in_ok-after.ensures.cases.0) ∙ omega arith in
    omega arith

pub loop-word-preserved : goal.loop-word-preserved
loop-word-preserved c =
    let other : bytes_eq (before_code 32 c.loop-word.rest.now) c.args.word.now ≡ false =
    ap (λ name. bytes_eq name c.args.word.now) (sym c.before_code.ensures) ∙ sym c.if-eq.ensures in
    let next : from_code 32 c.loop-word.rest.now ≡ c.in_ok-after.field-0-0.now ∷ c.in_ok-after.after.now = sym c.from_code.ensures ∙ c.in_ok-after.ensures.cases.0 in
    let shorter = before_from 32 c.loop-word.rest.now in
    let is : length (from_code 32 c.loop-word.rest.now) ≡ 1 + length c.in_ok-after.after.now = ap length next ∙ omega arith in (
      sym (place_next c.loop-word.place c.in_ok-after.field-0-0.now c.loop-word.rest.now c.args.word.now c.in_ok-after.after.now other next) ∙ c.loop-word.invariant.0,
      omega arith,
    )
