use Rattle.std.proofs.Common.{◌≡◌, ◌+◌, ◌*◌, ◌/◌, ◌<◌, ℕ, List, length, take, set, replicate, get_or, length-set, get_or-set_same, get_or-set_other, arith, inl, inr, ap, sym, ◌∙◌}
use Rattle.std.proofs.lemmas.Bool.{cases_lt}
use Rattle.std.proofs.lemmas.List.{length-replicate, take_rest}
use Rattle.llsc_base.specs.Memory.{number_of}
use Rattle.row_bytes.specs.Cell.{cell_at}
use Rattle.shared_memory.proofs.FirstWords.{zero-words}
use Rattle.shared_memory.proofs.words.initial_words.Goals as goal

pub loop-i-preserved : goal.loop-i-preserved
loop-i-preserved c =
    let words = c.loop-i.words.items in
    let new = c.first_cell.result in
    let at = c.args.zeros + c.loop-i.i in
    let long = c.loop-i.invariant.long in
    let inside : at < length words = omega arith in
    record {
      long = length-set words at new ∙ long;
      else_zero = λ k h. elim h [
        | inl before ↦ get_or-set_other words at k new 0 (λ same. absurd (omega arith)) ∙ c.loop-i.invariant.else_zero k (inl before)
        | inr behind ↦ get_or-set_other words at k new 0 (λ same. absurd (omega arith)) ∙ c.loop-i.invariant.else_zero k (inr (omega arith))
      ];
      cells = λ k h. elim (cases_lt k c.loop-i.i) [
        | inl below ↦ get_or-set_other words at (c.args.zeros + k) new 0 (λ same. absurd (omega arith)) ∙ c.loop-i.invariant.cells k below
        | inr last ↦
            let is : k ≡ c.loop-i.i = omega arith in
            let here = λ (j : ℕ). get_or (set words at new) (c.args.zeros + j) 0 in
            ap here is ∙ get_or-set_same words at new 0 inside ∙ c.first_cell.ensures
            ∙ ap (λ (xs : List ℕ). number_of (take 8 xs)) (take_rest c.args.bytes.now (8 * c.loop-i.i)) ∙ ap (cell_at c.args.bytes.now) (sym is)
      ];
    }

pub loop-i-init : goal.loop-i-init
loop-i-init c =
    let total = c.args.zeros + length c.args.bytes.now / 8 + c.args.behind in
    let items : c.in_ok-words.words.items ≡ replicate total 0 = c.in_ok-words.ensures.items_if_clones_equal (λ y is. is) in
    rw items (record {
      long = length-replicate total 0;
      else_zero = λ k h. zero-words total k;
      cells = λ k h. absurd (omega arith);
    })

pub returns-clause-long : goal.returns-clause-long
returns-clause-long c = let long = c.loop-i.invariant.long in omega arith

pub returns-clause-zeros : goal.returns-clause-zeros
returns-clause-zeros c = λ k h. c.loop-i.invariant.else_zero k (inl h)

pub returns-clause-cells : goal.returns-clause-cells
returns-clause-cells c = λ k h. c.loop-i.invariant.cells k (omega arith)

pub returns-clause-behind : goal.returns-clause-behind
returns-clause-behind c = λ k h. c.loop-i.invariant.else_zero k (inr (omega arith))
