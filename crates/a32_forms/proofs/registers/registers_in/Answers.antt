use Rattle.std.proofs.Common.{sym, ap, ◌∙◌, ◌≡◌, ◌<◌, ◌≤◌, ◌^◌, ◌+◌, true, Some, None, length, [], ◌∷◌, arith}
use Rattle.std.proofs.Math.Pow.{pow_mono}
use Rattle.std.proofs.lemmas.List.{nil_from_length}
use Rattle.a32_forms.specs.Text.{parts}
use Rattle.a32_forms.specs.Cuts.{before_code, from_code}
use Rattle.a32_forms.specs.Registers.{range_of, rises, mask}
use Rattle.a32_forms.proofs.CutTexts.{before_from}
use Rattle.a32_forms.proofs.Masks.{item_wrong, item_falls, item_last, item_next, mask_within, none_before, registers_behind}
use Rattle.a32_forms.proofs.registers.registers_in.Goals as goal

pub loop-item-init : goal.loop-item-init
loop-item-init c = (none_before c.args.text.now, omega arith, omega arith)

pub returns-in_err-item-clause-list : goal.returns-in_err-item-clause-list
returns-in_err-item-clause-list c =
    let none : range_of (parts (before_code 44 c.loop-item.rest.now)) ≡ None =
    ap (λ text. range_of (parts text)) (sym c.before_code.ensures) ∙ sym c.in_err-item.ensures.range in
    c.from_residual.ensures
    ∙ sym (item_wrong c.loop-item.list c.loop-item.lowest c.loop-item.rest.now none) ∙ c.loop-item.invariant.0

pub returns-then-not-rises-clause-list : goal.returns-then-not-rises-clause-list
returns-then-not-rises-clause-list c =
    let is : range_of (parts (before_code 44 c.loop-item.rest.now)) ≡ Some c.in_ok-item.item =
    ap (λ text. range_of (parts text)) (sym c.before_code.ensures) ∙ sym c.in_ok-item.ensures.range in
    sym (item_falls c.loop-item.list c.loop-item.lowest c.loop-item.rest.now c.in_ok-item.item is (sym c.if-not-rises.ensures)) ∙ c.loop-item.invariant.0

pub returns-in_default-clause-list : goal.returns-in_default-clause-list
returns-in_default-clause-list c =
    let is : range_of (parts (before_code 44 c.loop-item.rest.now)) ≡ Some c.in_ok-item.item =
    ap (λ text. range_of (parts text)) (sym c.before_code.ensures) ∙ sym c.in_ok-item.ensures.range in
    let none : from_code 44 c.loop-item.rest.now ≡ [] = sym c.from_code.ensures ∙ nil_from_length c.from_code.result.now c.in_default.ensures.cases in
    ap (λ m. Some (c.loop-item.list + m)) c.mask-list.ensures
    ∙ sym (item_last c.loop-item.list c.loop-item.lowest c.loop-item.rest.now c.in_ok-item.item is (sym c.if-not-rises.ensures) none)
    ∙ c.loop-item.invariant.0

pub returns-in_default-clause-bound : goal.returns-in_default-clause-bound
returns-in_default-clause-bound c =
    let most : 2 ^ (c.in_ok-item.item.last + 1) ≤ 2 ^ 16 = pow_mono {j = 16} (omega (arith, c.in_ok-item.ensures.bound)) in
    let within : c.loop-item.list + mask c.in_ok-item.item < 2 ^ (c.in_ok-item.item.last + 1) = mask_within c.loop-item.list c.loop-item.lowest c.in_ok-item.item (sym c.if-not-rises.ensures) c.loop-item.invariant.1 in
    omega (arith, c.mask-list.ensures)

pub loop-item-smaller : goal.loop-item-smaller
loop-item-smaller c =
    let shorter = before_from 44 c.loop-item.rest.now in
    let is : length (from_code 44 c.loop-item.rest.now) ≡ 1 + length c.in-Some.after.now = ap length (sym c.from_code.ensures ∙ c.in-Some.ensures.cases.0) ∙ omega arith in
    omega arith

pub loop-item-preserved : goal.loop-item-preserved
loop-item-preserved c =
    let is : range_of (parts (before_code 44 c.loop-item.rest.now)) ≡ Some c.in_ok-item.item =
    ap (λ text. range_of (parts text)) (sym c.before_code.ensures) ∙ sym c.in_ok-item.ensures.range in
    let rising : rises c.loop-item.lowest c.in_ok-item.item ≡ true = sym c.if-not-rises.ensures in
    let next : from_code 44 c.loop-item.rest.now ≡ c.in-Some.field-0-0.now ∷ c.in-Some.after.now = sym c.from_code.ensures ∙ c.in-Some.ensures.cases.0 in
    let within : c.loop-item.list + mask c.in_ok-item.item < 2 ^ (c.in_ok-item.item.last + 1) = mask_within c.loop-item.list c.loop-item.lowest c.in_ok-item.item rising c.loop-item.invariant.1 in (
      ap (λ m. registers_behind (c.loop-item.list + m) (c.in_ok-item.item.last + 1) c.in-Some.after.now) c.mask-list.ensures
          ∙ sym (item_next c.loop-item.list c.loop-item.lowest c.loop-item.rest.now c.in-Some.after.now c.in-Some.field-0-0.now c.in_ok-item.item is rising next)
          ∙ c.loop-item.invariant.0,
      omega (arith, c.mask-list.ensures),
      omega (arith, c.in_ok-item.ensures.bound),
    )
