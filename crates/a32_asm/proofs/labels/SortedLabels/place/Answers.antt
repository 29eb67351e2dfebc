use Rattle.std.proofs.Common.{◌<◌, ◌≤◌, length, sym, ap, ◌∙◌, subst}
use Rattle.std.specs.Cmp.Lexicographic.{slice_cmp}
use Rattle.std.specs.Ordering.{is_ne, nat_cmp}
use Rattle.a32_forms.specs.Cuts.{before_code}
use Rattle.a32_asm.proofs.FoundPlaces.{no_name, no_place_past, no_place_here, place_here}
use Rattle.a32_asm.proofs.labels.SortedLabels.place.Goals as goal

pub returns-then-before_code-name : goal.returns-then-before_code-name
returns-then-before_code-name c =
    sym (no_name c.args.self.now.text.now c.args.name.now c.args.self.now.places.items
    (subst (λ t. length t < length c.args.name.now) c.before_code.ensures c.if-before_code-name.true))

pub returns-in_err-place : goal.returns-in_err-place
returns-in_err-place c =
    let no_colon : length c.args.name.now ≤ length (before_code 58 c.args.name.now) = subst (λ t. length c.args.name.now ≤ length t) c.before_code.ensures c.if-before_code-name.false in
    c.from_residual.ensures ∙ sym (no_place_past c.args.self.now.text.now c.args.name.now c.args.self.now.places.items c.deref.result.now c.count_before.result c.args.self.now.in_order
    c.count_before.ensures no_colon c.deref.ensures.value
    c.in_err-place.ensures.lookup.3)

pub returns-then-is_ne : goal.returns-then-is_ne
returns-then-is_ne c =
    let no_colon : length c.args.name.now ≤ length (before_code 58 c.args.name.now) = subst (λ t. length c.args.name.now ≤ length t) c.before_code.ensures c.if-before_code-name.false in
    sym (no_place_here c.args.self.now.text.now c.args.name.now c.args.self.now.places.items c.deref.result.now c.count_before.result c.args.self.now.in_order
    c.count_before.ensures no_colon c.deref.ensures.value
    c.in_ok-place.place.now c.in_ok-place.ensures.lookup.3
    (sym (c.is_ne.ensures ∙ ap is_ne (c.compare_names.ensures ∙ ap (λ t. slice_cmp nat_cmp (before_code 58 t) (before_code 58 c.args.name.now)) c.text_at.ensures)) ∙ c.if-is_ne.true))

pub returns : goal.returns
returns c =
    let no_colon : length c.args.name.now ≤ length (before_code 58 c.args.name.now) = subst (λ t. length c.args.name.now ≤ length t) c.before_code.ensures c.if-before_code-name.false in
    sym (place_here c.args.self.now.text.now c.args.name.now c.args.self.now.places.items c.deref.result.now c.count_before.result c.args.self.now.in_order
    c.count_before.ensures no_colon c.deref.ensures.value
    c.in_ok-place.place.now c.in_ok-place.ensures.lookup.3
    (sym (c.is_ne.ensures ∙ ap is_ne (c.compare_names.ensures ∙ ap (λ t. slice_cmp nat_cmp (before_code 58 t) (before_code 58 c.args.name.now)) c.text_at.ensures)) ∙ c.if-is_ne.false))
