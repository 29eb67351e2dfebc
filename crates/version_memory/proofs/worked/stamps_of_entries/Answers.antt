-- What stands before the entry, and the writes in it.
use Rattle.std.proofs.Common.{◌≡◌, false, [], ◌∷◌, inl, inr, refl, subst}
use Rattle.llsc_base.specs.Memory.{class_of, row_of}
use Rattle.history.specs.Cause.{writes_in_class}
use Rattle.history.specs.Worked.{cell_before, next_row, word}
use Rattle.history.specs.declared.entry.Entry.TheVariants.{Begin, Write}
use Rattle.history.proofs.SmallMemory.{apart}
use Rattle.shared_memory.proofs.SmallHistories.{at_one, at_two}
use Rattle.shared_memory.specs.Worked.{limited_machine}
use Rattle.version_memory.proofs.worked.stamps_of_entries.Goals as goal

pub returns-clause-first : goal.returns-clause-first
unfolding class_of row_of
returns-clause-first c = record { past = []; later = []; are = refl; since = ([], refl); fact = refl }

pub returns-clause-second : goal.returns-clause-second
unfolding class_of row_of
returns-clause-second c = record { past = Write 1 next_row 5 false ∷ []; later = []; are = refl; since = (Write 1 next_row 5 false ∷ [], refl); fact = refl }

pub returns-clause-written_elsewhere : goal.returns-clause-written_elsewhere
unfolding class_of row_of
returns-clause-written_elsewhere c = record { past = Write 1 next_row 5 false ∷ []; later = []; are = refl; since = (Write 1 next_row 5 false ∷ [], refl); fact = refl }

pub returns-clause-wide_row : goal.returns-clause-wide_row
unfolding class_of row_of
returns-clause-wide_row c = record { past = Write 1 cell_before 5 false ∷ []; later = []; are = refl; since = (Write 1 cell_before 5 false ∷ [], refl); fact = refl }

pub returns-clause-begun : goal.returns-clause-begun
unfolding class_of row_of
returns-clause-begun c = record { past = Begin 1 word ∷ []; later = []; are = refl; since = (Begin 1 word ∷ [], refl); fact = refl }

pub returns-clause-with_itself : goal.returns-clause-with_itself
unfolding class_of row_of
returns-clause-with_itself c = λ stands.
    let at = at_one _ _ _ _ stands.are in
    apart 0 1 refl (subst (λ past. writes_in_class (limited_machine 1 2) (row_of 0 word) past ≡ 1) at.0 stands.fact)

pub returns-clause-written_after : goal.returns-clause-written_after
unfolding class_of row_of
returns-clause-written_after c = λ stands. elim (at_two _ _ _ _ _ stands.are) [
  | inl at ↦ apart 0 1 refl (subst (λ past. writes_in_class (limited_machine 1 2) (row_of 0 word) past ≡ 1) at.0 stands.fact)
  | inr at ↦ let wrong = at.1 in cc
]
