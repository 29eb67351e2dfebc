-- What isn't the one trace is none.
use Rattle.std.proofs.Common.{ℕ, List, length, [], ◌∷◌, ap, refl, lit≤}
use Rattle.history.specs.declared.entry.Access.{Access}
use Rattle.history.proofs.SmallMemory.{apart}
use Rattle.a32_runs.specs.Turns.{leaving, loading, small_machine}
use Rattle.guest_machine.proofs.OneTrace.{not_too_long, one_trace}
use Rattle.a32_runs.proofs.SmallTraces.{both_loaded, none_loaded}
use Rattle.a32_runs.proofs.worked_turns.traces_of_small_programs.Goals as goal
use Rattle.a32_step.specs.Machine.{a32}

-- the thread of the first access, and its value
abbrev thread_first : List Access → ℕ
thread_first [] = 0
thread_first (access ∷ accesses) = access.thread

abbrev value_first : List Access → ℕ
value_first [] = 0
value_first (access ∷ accesses) = access.value

pub returns-clause-empty : goal.returns-clause-empty
returns-clause-empty c = none_loaded

pub returns-clause-loads : goal.returns-clause-loads
returns-clause-loads c = both_loaded

pub returns-clause-invented : goal.returns-clause-invented
returns-clause-invented c = λ trace.
    apart 0 1 refl (ap (λ (l : List Access). length l) (one_trace a32 leaving (small_machine 1) 0 10 _ _ none_loaded trace))

pub returns-clause-unfinished : goal.returns-clause-unfinished
returns-clause-unfinished c = λ trace.
    apart 2 1 refl (ap (λ (l : List Access). length l) (one_trace a32 loading (small_machine 2) 0 10 _ _ both_loaded trace))

pub returns-clause-exchanged : goal.returns-clause-exchanged
returns-clause-exchanged c = λ trace. apart 1 0 refl (ap thread_first (one_trace a32 loading (small_machine 2) 0 10 _ _ both_loaded trace))

pub returns-clause-another_value : goal.returns-clause-another_value
returns-clause-another_value c = λ trace.
    apart 0xE5942000 0 refl (ap value_first (one_trace a32 loading (small_machine 2) 0 10 _ _ both_loaded trace))

pub returns-clause-not_too_long : goal.returns-clause-not_too_long
returns-clause-not_too_long c = not_too_long a32 loading (small_machine 2) 0 10 _ both_loaded (lit≤ tt)
