-- What stands before the Begin, and the writes in it.
use Rattle.std.proofs.Common.{◌<◌, false, [], ◌∷◌, arith, inl, inr, lit<, refl, subst}
use Rattle.llsc_base.specs.Memory.{class_of, row_of}
use Rattle.history.specs.Cause.{writes_in_class}
use Rattle.history.specs.Worked.{next_row, wide_machine, word}
use Rattle.history.specs.declared.entry.Entry.TheVariants.{Write}
use Rattle.shared_memory.proofs.SmallHistories.{at_two}
use Rattle.shared_memory.specs.Worked.{limited_machine}
use Rattle.version_memory.proofs.worked.classes_with_room.Goals as goal

pub returns-clause-room : goal.returns-clause-room
unfolding class_of row_of
returns-clause-room c = record { past = Write 1 next_row 5 false ∷ []; later = []; are = refl; since = (Write 1 next_row 5 false ∷ [], refl); fact = lit< tt }

pub returns-clause-full_elsewhere : goal.returns-clause-full_elsewhere
unfolding class_of row_of
returns-clause-full_elsewhere c = record { past = Write 1 next_row 5 false ∷ []; later = []; are = refl; since = (Write 1 next_row 5 false ∷ [], refl); fact = lit< tt }

pub returns-clause-full_after : goal.returns-clause-full_after
unfolding class_of row_of
returns-clause-full_after c = record { past = []; later = Write 0 word 5 false ∷ []; are = refl; since = ([], refl); fact = lit< tt }

pub returns-clause-full : goal.returns-clause-full
unfolding class_of row_of
returns-clause-full c = λ stands. elim (at_two _ _ _ _ _ stands.are) [
  | inl at ↦ let wrong = at.1 in cc
  | inr at ↦
      let full : 1 < 1 = subst (λ past. writes_in_class (limited_machine 1 1) (row_of 0 word) past < 1) at.0 stands.fact in
      omega (arith, full)
]

pub returns-clause-full_wide_row : goal.returns-clause-full_wide_row
unfolding class_of row_of
returns-clause-full_wide_row c = λ stands. elim (at_two _ _ _ _ _ stands.are) [
  | inl at ↦ let wrong = at.1 in cc
  | inr at ↦
      let full : 1 < 1 = subst (λ past. writes_in_class (wide_machine 4096) (row_of 1 word) past < 1) at.0 stands.fact in
      omega (arith, full)
]
