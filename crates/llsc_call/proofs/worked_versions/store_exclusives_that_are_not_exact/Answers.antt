-- The load-exclusive that each would follow isn't there.
use Rattle.std.proofs.Common.{◌≡◌, true, false, None, Some, [], ◌∷◌, inl, inr, refl, subst}
use Rattle.std.specs.List.{list_any}
use Rattle.llsc_base.specs.Memory.{row_of}
use Rattle.history.specs.Marked.{is_write_in}
use Rattle.history.specs.Worked.{last_byte, next_row, word}
use Rattle.history.specs.declared.entry.Cause.TheVariants.{Lost}
use Rattle.history.specs.declared.entry.Entry.TheVariants.{Read, Write}
use Rattle.history.proofs.SmallHistories.{is_of_one, is_of_two}
use Rattle.history.proofs.SmallMemory.{apart}
use Rattle.llsc_call.proofs.worked_versions.store_exclusives_that_are_not_exact.Goals as goal

pub returns-clause-written : goal.returns-clause-written
unfolding row_of
returns-clause-written c = λ exact.
    let since = exact.undisturbed (Read 0 word 0 true ∷ Write 1 last_byte 0 false ∷ []) [] 0 word 9 refl in
    elim (is_of_two _ _ _ _ _ since.are) [
      | inl at ↦ let wrong : true ≡ false = subst (λ later. list_any (is_write_in 0 1) later ≡ false) at.1 since.unwritten in cc
      | inr at ↦ cc
    ]

pub returns-clause-of_another_row : goal.returns-clause-of_another_row
unfolding row_of
returns-clause-of_another_row c = λ exact.
    let since = exact.undisturbed (Read 0 next_row 0 true ∷ []) [] 0 word 9 refl in
    let there : since.place ≡ next_row = let at = (is_of_one _ _ _ _ since.are).0 in cc in
    apart 2 1 refl (subst (λ place. row_of 0 place ≡ 1) there since.of_row)

pub returns-clause-of_another_thread : goal.returns-clause-of_another_thread
returns-clause-of_another_thread c = λ exact.
    let since = exact.undisturbed (Read 1 word 0 true ∷ []) [] 0 word 9 refl in
    let at = (is_of_one _ _ _ _ since.are).0 in apart 0 1 refl cc

pub returns-clause-causeless : goal.returns-clause-causeless
returns-clause-causeless c = λ exact.
    let lost = exact.caused [] [] 0 word 9 Lost refl in
    let none : None ≡ Some (row_of 0 word) = lost.0 in cc
