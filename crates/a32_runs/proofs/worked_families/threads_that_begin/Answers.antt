use Rattle.std.proofs.Common.{◌≡◌, ℕ, zero, suc, [], ◌∷◌, lit<, refl, arith}
use Rattle.history.specs.declared.entry.Entry.TheVariants.{Start}
use Rattle.guest_thread.specs.Begun.{BeginsAs, by_itself, by_start}
use Rattle.guest_thread.specs.Worked.{machine_of}
use Rattle.a32_step.specs.Machine.{Machine, a32}
use Rattle.a32_runs.specs.Leaving.{leaving}
use Rattle.a32_runs.proofs.worked_families.threads_that_begin.Goals as goal

-- two starts are one only of one thread
same_child : (one other child thread entry address arg value : ℕ) → Start one child entry arg ≡ Start other thread address value → child ≡ thread
same_child one other child thread entry address arg value same = cc

-- without a start of it a thread that is none of the first doesn't begin
not_started : (start : Machine) → BeginsAs a32 leaving (machine_of 2 1 1) 1 [] 1 start → ⊥
not_started _ (by_itself below) = omega (arith, below)
not_started _ (by_start starter entry arg (k, below, is)) = omega (arith, below)

another_started : (start : Machine) → BeginsAs a32 leaving (machine_of 2 1 1) 1 (Start 0 2 4 7 ∷ []) 1 start → ⊥
another_started _ (by_itself below) = omega (arith, below)
another_started _ (by_start starter entry arg (zero, below, is)) = let wrong = same_child 0 starter 2 1 4 entry 7 arg is in omega (arith, wrong)
another_started _ (by_start starter entry arg (suc k, below, is)) = omega (arith, below)

pub returns-clause-by_itself : goal.returns-clause-by_itself
returns-clause-by_itself c = by_itself (lit< tt)

pub returns-clause-by_its_start : goal.returns-clause-by_its_start
returns-clause-by_its_start c = by_start 0 4 7 (0, lit< tt, refl)

pub returns-clause-not_started : goal.returns-clause-not_started
returns-clause-not_started c = not_started

pub returns-clause-another_started : goal.returns-clause-another_started
returns-clause-another_started c = another_started
