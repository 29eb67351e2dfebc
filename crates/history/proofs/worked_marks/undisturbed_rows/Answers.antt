-- The load-exclusive is the first entry or the second one, or there is none.
use Rattle.std.proofs.Common.{◌≡◌, true, false, [], ◌∷◌, inl, inr, lit<, refl, subst}
use Rattle.std.specs.List.{list_any}
use Rattle.llsc_base.specs.Memory.{row_of}
use Rattle.history.specs.Marked.{is_load_ex, is_write_in}
use Rattle.history.specs.Worked.{next_row, small_memory, word}
use Rattle.history.specs.declared.entry.Entry.TheVariants.{Write}
use Rattle.history.proofs.Kept.{stored-keeps}
use Rattle.history.proofs.SmallMemory.{apart, sound_next_row}
use Rattle.history.proofs.SmallHistories.{is_of_one, is_of_two}
use Rattle.history.proofs.worked_marks.undisturbed_rows.Goals as goal

pub returns-clause-undisturbed : goal.returns-clause-undisturbed
unfolding row_of
returns-clause-undisturbed c = record {
  before = [];
  place = word;
  value = 0;
  later = Write 1 next_row 1 false ∷ [];
  are = refl;
  last = refl;
  of_row = refl;
  unwritten = refl;
  kept = stored-keeps 0 small_memory.memory next_row 1 1 0 2 (sound_next_row 0 (lit< tt)) (apart 2 1 refl);
}

pub returns-clause-written : goal.returns-clause-written
unfolding row_of
returns-clause-written c = λ since. elim (is_of_two _ _ _ _ _ since.are) [
  | inl at ↦ let wrong : true ≡ false = subst (λ later. list_any (is_write_in 0 1) later ≡ false) at.1 since.unwritten in cc
  | inr at ↦ cc
]

pub returns-clause-of_another_row : goal.returns-clause-of_another_row
unfolding row_of
returns-clause-of_another_row c = λ since.
    let there : since.place ≡ next_row = let at = (is_of_one _ _ _ _ since.are).0 in cc in
    apart 2 1 refl (subst (λ place. row_of 0 place ≡ 1) there since.of_row)

pub returns-clause-of_another_thread : goal.returns-clause-of_another_thread
returns-clause-of_another_thread c = λ since. let at = (is_of_one _ _ _ _ since.are).0 in apart 0 1 refl cc

pub returns-clause-not_exclusive : goal.returns-clause-not_exclusive
returns-clause-not_exclusive c = λ since. let at = (is_of_one _ _ _ _ since.are).0 in let wrong : true ≡ false = cc in cc

pub returns-clause-not_the_last : goal.returns-clause-not_the_last
unfolding row_of
returns-clause-not_the_last c = λ since. elim (is_of_two _ _ _ _ _ since.are) [
  | inl at ↦ let wrong : true ≡ false = subst (λ later. list_any (is_load_ex 0) later ≡ false) at.1 since.last in cc
  | inr at ↦
      let there : since.place ≡ next_row = cc in
      apart 2 1 refl (subst (λ place. row_of 0 place ≡ 1) there since.of_row)
]
