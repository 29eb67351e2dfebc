use Rattle.std.proofs.Common.{◌≡◌, ℕ, Some, None, subst}
use Rattle.history.specs.Operation.{load}
use Rattle.memory_handle.specs.Accesses.{Makes}
use Rattle.memory_handle.specs.Handles.{AreAlike}
use Rattle.memory_handle.specs.declared.handles.Handle.{Handle}
use Rattle.llsc_c.proofs.Same.{same_handle}
use Rattle.llsc_c.proofs.laws.handles_that_are_held_still.Goals as goal

abbrev loads : ℕ → Handle → Handle → Type 0
loads value = Makes 8 4 (λ place. load place value)

pub returns-clause-done : goal.returns-clause-done
returns-clause-done c = λ value old new becomes.
    subst (λ h. loads value old h) (same_handle new becomes.to becomes.is)
    (subst (λ h. loads value h becomes.to) (same_handle old becomes.from becomes.was) becomes.does)

pub returns-clause-alike : goal.returns-clause-alike
returns-clause-alike c = λ value old new becomes.
    subst (λ h. AreAlike old h) (same_handle new becomes.to becomes.is)
    (subst (λ h. AreAlike h becomes.to) (same_handle old becomes.from becomes.was) becomes.alike)

pub returns-clause-none_before : goal.returns-clause-none_before
returns-clause-none_before c = λ value new becomes. let wrong : None ≡ Some becomes.from = becomes.was in cc

pub returns-clause-none_after : goal.returns-clause-none_after
returns-clause-none_after c = λ value old becomes. let wrong : None ≡ Some becomes.to = becomes.is in cc
