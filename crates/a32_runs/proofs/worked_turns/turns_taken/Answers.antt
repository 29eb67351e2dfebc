use Rattle.std.proofs.Common.{refl, [], ◌∷◌}
use Rattle.llsc_base.specs.declared.outside.Stop.TheVariants.{Exit}
use Rattle.guest_machine.specs.Turns.{begins, stops}
use Rattle.a32_runs.proofs.TracedRuns.{leaves_at_once}
use Rattle.a32_runs.proofs.SmallTraces.{one_load}
use Rattle.a32_runs.proofs.worked_turns.turns_taken.Goals as goal

pub returns-clause-none : goal.returns-clause-none
returns-clause-none c = begins

pub returns-clause-stopped : goal.returns-clause-stopped
returns-clause-stopped c = stops 0 (0 ∷ 1 ∷ []) [] 1 (Exit 1) 2 [] begins refl (leaves_at_once 2 1)

pub returns-clause-loaded : goal.returns-clause-loaded
returns-clause-loaded c = one_load
