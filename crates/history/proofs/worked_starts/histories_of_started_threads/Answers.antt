use Rattle.std.proofs.Common.{[], ◌∷◌, inr, refl, lit<, lit≤}
use Rattle.history.specs.Operation.{clear, start}
use Rattle.history.specs.Started.{MayStand}
use Rattle.history.specs.declared.entry.Entry.TheVariants.{Clear, Start}
use Rattle.history.proofs.Born.{may-not_act}
use Rattle.history.proofs.Cuts.{each-none, each-two}
use Rattle.history.proofs.worked_starts.histories_of_started_threads.Goals as goal

pub returns-clause-born : goal.returns-clause-born
returns-clause-born c = each-two (MayStand 1 1) [] (Start 0 1 4096 7) (Clear 1) (each-none (MayStand 1 1)) (lit< tt, lit< tt, refl) (inr refl)

pub returns-clause-too_early : goal.returns-clause-too_early
returns-clause-too_early c = λ born. may-not_act 1 1 [] (lit≤ tt) refl (born [] (Clear 1) _ refl)

pub returns-clause-finished : goal.returns-clause-finished
returns-clause-finished c = record { operations = start 1 4096 7 ∷ clear ∷ []; are = refl }
