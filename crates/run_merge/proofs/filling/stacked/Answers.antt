use Rattle.std.proofs.Common.{◌≡◌, ◌∙◌, ◌<◌, ◌+◌, ℕ, List, length, get_or, slice_index, set, sym, ap, inl, inr, arith, get_or-set_same, get_or-set_other, length-set}
use Rattle.std.proofs.lemmas.Bool.{cases_eq}
use Rattle.run_merge.specs.inner.Filling.{IsStack}
use Rattle.run_merge.proofs.filling.stacked.Goals as goal

-- one class more
one_more : (widths bases : List ℕ) (c end width : ℕ) → c < length bases → width ≡ slice_index widths c → IsStack widths c bases end → IsStack widths (c + 1) (set bases c end) (end + width)
one_more widths bases c end width inside is stack = record {
  within = λ k less. elim (cases_eq k c) [
    | inl same ↦
        let here : slice_index (set bases c end) k ≡ end = ap (slice_index (set bases c end)) same ∙ get_or-set_same bases c end 0 inside in
        let wide : slice_index widths k ≡ width = ap (slice_index widths) same ∙ sym is in
        omega (arith, here, wide)
    | inr other ↦ omega (arith, get_or-set_other bases c k end 0 other, stack.within k (omega (arith, less, other)))
  ];
  apart = λ k j less below. elim (cases_eq j c) [
    | inl same ↦
        let here : slice_index (set bases c end) j ≡ end = ap (slice_index (set bases c end)) same ∙ get_or-set_same bases c end 0 inside in
        let before : k < c = omega (arith, less, same) in
        omega (arith, here, get_or-set_other bases c k end 0 (λ e. absurd (omega (arith, before, e))), stack.within k before)
    | inr other ↦
        let before : j < c = omega (arith, below, other) in
        omega (arith, get_or-set_other bases c j end 0 other, get_or-set_other bases c k end 0 (λ e. absurd (omega (arith, before, less, e))), stack.apart k j less before)
  ];
}

pub loop-c-preserved : goal.loop-c-preserved
loop-c-preserved c =
    let inv = c.loop-c.invariant in
    let ws = c.loop-c.widths.items in
    let i = c.loop-c.c in
    let inside : i < length ws = omega (arith, c.loop-c-test.true, c.len-c-end.ensures, inv.len) in
    let is : get_or c.as_slice.result.now i 0 ≡ slice_index c.args.widths.items i = ap (λ l. get_or l i 0) c.as_slice.ensures.value ∙ inv.rest i (omega arith) in
    record {
      len = length-set ws i c.loop-c.total ∙ inv.len;
      few = omega (arith, inv.few, is, c.requires.bound i);
      rest = λ k past. get_or-set_other ws i k c.loop-c.total 0 (λ e. absurd (omega (arith, past, e))) ∙ inv.rest k (omega (arith, past));
      stack = one_more c.args.widths.items ws i c.loop-c.total (get_or c.as_slice.result.now i 0) inside is inv.stack;
    }

pub returns-clause-stack : goal.returns-clause-stack
returns-clause-stack c =
    let inv = c.loop-c.invariant in
    record {
      within = λ k less. inv.stack.within k (omega (arith, less, c.loop-c-test.false, c.len-c-end.ensures));
      apart = λ k j less below. inv.stack.apart k j less (omega (arith, below, c.loop-c-test.false, c.len-c-end.ensures));
    }
