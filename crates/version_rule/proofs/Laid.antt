-- The words of the table after one of them has changed.
use Rattle.std.proofs.Common.{◌≡◌, ℕ, ◌/◌, ◌<◌, ◌≤◌, List, length, slice_index, set, get_or, refl, ap, sym, ◌∙◌, subst, inl, inr, arith, length-set, get_or-set_same, get_or-set_other}
use Rattle.std.proofs.lemmas.Bool.{cases_eq}
use Rattle.llsc_base.specs.Sizes.{Numbers}
use Rattle.history.specs.Standing.{Standing, updated}
use Rattle.history.proofs.Marks.{updated-other, updated-same}
use Rattle.shared_memory.specs.Layout.{cell_word, tag_word, words_of}
use Rattle.version_rule.specs.Kept.{IsLaid}

-- the words are laid so, and behind the cells they are as before
pub record AreRelaid (size : Numbers) (words words' : List ℕ) (s : Standing) : Type 0 where
  pub laid : IsLaid size words' s
  pub as_long : length words' ≡ length words
  pub behind : (i : ℕ) → words_of size ≤ i → slice_index words' i ≡ slice_index words i

pub laid-same : (size : Numbers) (words : List ℕ) (s s' : Standing) → s'.edges ≡ s.edges → s'.cells ≡ s.cells → IsLaid size words s → AreRelaid size words words s'
laid-same size words s s' edges cells laid = record {
  laid = record {
    long = laid.long;
    first = laid.first;
    tags = λ c h. laid.tags c h ∙ ap (λ (f : ℕ → ℕ). f c) (sym edges);
    cells = λ i h. laid.cells i h ∙ ap (λ (f : ℕ → ℕ). f i) (sym cells);
  };
  as_long = refl;
  behind = λ i from. refl;
}

pub laid-tag : (size : Numbers) (words : List ℕ) (s s' : Standing) (class n : ℕ) → class < size.classes → s'.edges ≡ updated s.edges class n → s'.cells ≡ s.cells
    → IsLaid size words s → AreRelaid size words (set words (tag_word class) n) s'
laid-tag size words s s' class n below edges cells laid =
    let long = laid.long in
    let inside : tag_word class < length words = omega arith in
    record {
      laid = record {
        long = subst (λ (m : ℕ). words_of size ≤ m) (sym (length-set words (tag_word class) n)) laid.long;
        first = get_or-set_other words (tag_word class) 0 n 0 (λ same. absurd (omega arith)) ∙ laid.first;
        tags = λ c h. elim (cases_eq c class) [
          | inl same ↦ ap (λ (k : ℕ). get_or (set words (tag_word class) n) (tag_word k) 0) same ∙ get_or-set_same words (tag_word class) n 0 inside
              ∙ sym (ap (λ (f : ℕ → ℕ). f c) edges ∙ ap (updated s.edges class n) same ∙ updated-same s.edges class n)
          | inr other ↦ get_or-set_other words (tag_word class) (tag_word c) n 0 (λ same. other (omega arith)) ∙ laid.tags c h
              ∙ sym (ap (λ (f : ℕ → ℕ). f c) edges ∙ updated-other s.edges class n c other)
        ];
        cells = λ i h. get_or-set_other words (tag_word class) (cell_word size i) n 0 (λ same. absurd (omega arith)) ∙ laid.cells i h ∙ ap (λ (f : ℕ → ℕ). f i) (sym cells);
      };
      as_long = length-set words (tag_word class) n;
      behind = λ i from. get_or-set_other words (tag_word class) i n 0 (λ same. absurd (omega arith));
    }

pub laid-cell : (size : Numbers) (words : List ℕ) (s s' : Standing) (cell n : ℕ) → cell < size.mem / 8 → s'.edges ≡ s.edges → s'.cells ≡ updated s.cells cell n
    → IsLaid size words s → AreRelaid size words (set words (cell_word size cell) n) s'
laid-cell size words s s' cell n below edges cells laid =
    let long = laid.long in
    let inside : cell_word size cell < length words = omega arith in
    record {
      laid = record {
        long = subst (λ (m : ℕ). words_of size ≤ m) (sym (length-set words (cell_word size cell) n)) laid.long;
        first = get_or-set_other words (cell_word size cell) 0 n 0 (λ same. absurd (omega arith)) ∙ laid.first;
        tags = λ c h. get_or-set_other words (cell_word size cell) (tag_word c) n 0 (λ same. absurd (omega arith)) ∙ laid.tags c h ∙ ap (λ (f : ℕ → ℕ). f c) (sym edges);
        cells = λ i h. elim (cases_eq i cell) [
          | inl same ↦ ap (λ (k : ℕ). get_or (set words (cell_word size cell) n) (cell_word size k) 0) same ∙ get_or-set_same words (cell_word size cell) n 0 inside
              ∙ sym (ap (λ (f : ℕ → ℕ). f i) cells ∙ ap (updated s.cells cell n) same ∙ updated-same s.cells cell n)
          | inr other ↦ get_or-set_other words (cell_word size cell) (cell_word size i) n 0 (λ same. other (omega arith)) ∙ laid.cells i h
              ∙ sym (ap (λ (f : ℕ → ℕ). f i) cells ∙ updated-other s.cells cell n i other)
        ];
      };
      as_long = length-set words (cell_word size cell) n;
      behind = λ i from. get_or-set_other words (cell_word size cell) i n 0 (λ same. absurd (omega arith));
    }

-- a word behind the cells is none of these
pub laid-behind : (size : Numbers) (words : List ℕ) (s s' : Standing) (i n : ℕ) → words_of size ≤ i → s'.edges ≡ s.edges → s'.cells ≡ s.cells
    → IsLaid size words s → IsLaid size (set words i n) s'
laid-behind size words s s' i n from edges cells laid = record {
  long = subst (λ (m : ℕ). words_of size ≤ m) (sym (length-set words i n)) laid.long;
  first = get_or-set_other words i 0 n 0 (λ same. absurd (omega arith)) ∙ laid.first;
  tags = λ c h. get_or-set_other words i (tag_word c) n 0 (λ same. absurd (omega arith)) ∙ laid.tags c h ∙ ap (λ (f : ℕ → ℕ). f c) (sym edges);
  cells = λ j h. get_or-set_other words i (cell_word size j) n 0 (λ same. absurd (omega arith)) ∙ laid.cells j h ∙ ap (λ (f : ℕ → ℕ). f j) (sym cells);
}
