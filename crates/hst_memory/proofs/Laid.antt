-- The words of the table after one of them has changed.
use Rattle.std.proofs.Common.{◌≡◌, ℕ, ◌/◌, ◌<◌, List, length, set, get_or, ap, sym, ◌∙◌, inl, inr, arith, length-set, get_or-set_same, get_or-set_other}
use Rattle.std.proofs.lemmas.Bool.{cases_eq}
use Rattle.llsc_base.specs.Sizes.{Numbers}
use Rattle.history.specs.Standing.{Standing, updated}
use Rattle.history.proofs.Marks.{updated-other, updated-same}
use Rattle.shared_memory.specs.Layout.{cell_word, tag_word}
use Rattle.hst_memory.specs.inner.Kept.{IsLaid}

pub laid-section : (size : Numbers) (words : List ℕ) (s : Standing) (n : ℕ) → IsLaid size words s → IsLaid size (set words 0 n) s
laid-section size words s n laid = record {
  long = length-set words 0 n ∙ laid.long;
  tags = λ c h. get_or-set_other words 0 (tag_word c) n 0 (λ same. absurd (omega arith)) ∙ laid.tags c h;
  cells = λ i h. get_or-set_other words 0 (cell_word size i) n 0 (λ same. absurd (omega arith)) ∙ laid.cells i h;
}

pub laid-same : (size : Numbers) (words : List ℕ) (s s' : Standing) → s'.name ≡ s.name → s'.cells ≡ s.cells → IsLaid size words s → IsLaid size words s'
laid-same size words s s' name cells laid = record {
  long = laid.long;
  tags = λ c h. laid.tags c h ∙ ap (λ (f : ℕ → ℕ). f c) (sym name);
  cells = λ i h. laid.cells i h ∙ ap (λ (f : ℕ → ℕ). f i) (sym cells);
}

pub laid-tag : (size : Numbers) (words : List ℕ) (s s' : Standing) (class n : ℕ) → class < size.classes → s'.name ≡ updated s.name class n → s'.cells ≡ s.cells
    → IsLaid size words s → IsLaid size (set words (tag_word class) n) s'
laid-tag size words s s' class n below name cells laid =
    let long = laid.long in
    let inside : tag_word class < length words = omega arith in
    record {
      long = length-set words (tag_word class) n ∙ laid.long;
      tags = λ c h. elim (cases_eq c class) [
        | inl same ↦ ap (λ (k : ℕ). get_or (set words (tag_word class) n) (tag_word k) 0) same ∙ get_or-set_same words (tag_word class) n 0 inside
            ∙ sym (ap (λ (f : ℕ → ℕ). f c) name ∙ ap (updated s.name class n) same ∙ updated-same s.name class n)
        | inr other ↦ get_or-set_other words (tag_word class) (tag_word c) n 0 (λ same. other (omega arith)) ∙ laid.tags c h
            ∙ sym (ap (λ (f : ℕ → ℕ). f c) name ∙ updated-other s.name class n c other)
      ];
      cells = λ i h. get_or-set_other words (tag_word class) (cell_word size i) n 0 (λ same. absurd (omega arith)) ∙ laid.cells i h ∙ ap (λ (f : ℕ → ℕ). f i) (sym cells);
    }

pub laid-cell : (size : Numbers) (words : List ℕ) (s s' : Standing) (cell n : ℕ) → cell < size.mem / 8 → s'.name ≡ s.name → s'.cells ≡ updated s.cells cell n
    → IsLaid size words s → IsLaid size (set words (cell_word size cell) n) s'
laid-cell size words s s' cell n below name cells laid =
    let long = laid.long in
    let inside : cell_word size cell < length words = omega arith in
    record {
      long = length-set words (cell_word size cell) n ∙ laid.long;
      tags = λ c h. get_or-set_other words (cell_word size cell) (tag_word c) n 0 (λ same. absurd (omega arith)) ∙ laid.tags c h ∙ ap (λ (f : ℕ → ℕ). f c) (sym name);
      cells = λ i h. elim (cases_eq i cell) [
        | inl same ↦ ap (λ (k : ℕ). get_or (set words (cell_word size cell) n) (cell_word size k) 0) same ∙ get_or-set_same words (cell_word size cell) n 0 inside
            ∙ sym (ap (λ (f : ℕ → ℕ). f i) cells ∙ ap (updated s.cells cell n) same ∙ updated-same s.cells cell n)
        | inr other ↦ get_or-set_other words (cell_word size cell) (cell_word size i) n 0 (λ same. other (omega arith)) ∙ laid.cells i h
            ∙ sym (ap (λ (f : ℕ → ℕ). f i) cells ∙ updated-other s.cells cell n i other)
      ];
    }
