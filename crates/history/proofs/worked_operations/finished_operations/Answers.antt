-- The operations, and the stage that a list ends at.
use Rattle.std.proofs.Common.{◌≡◌, true, false, [], ◌∷◌, refl}
use Rattle.history.specs.Operation.{load, load_watched, load_missed, store, fail, clear}
use Rattle.history.specs.Standing.{looked, rests, written}
use Rattle.history.specs.Worked.{word}
use Rattle.history.specs.declared.entry.Cause.TheVariants.{Lost}
use Rattle.history.proofs.Operations.{last_stage-AreFinished}
use Rattle.history.proofs.worked_operations.finished_operations.Goals as goal

pub returns-clause-loads : goal.returns-clause-loads
returns-clause-loads c = record { operations = load word 0 ∷ load_watched word 0 ∷ load_missed word 0 ∷ []; are = refl }

pub returns-clause-stores : goal.returns-clause-stores
returns-clause-stores c = record { operations = store word 5 false ∷ store word 9 true ∷ []; are = refl }

pub returns-clause-others : goal.returns-clause-others
returns-clause-others c = record { operations = fail word 9 Lost ∷ clear ∷ []; are = refl }

pub returns-clause-watching : goal.returns-clause-watching
returns-clause-watching c = λ finished. let wrong : looked word ≡ rests = last_stage-AreFinished 0 _ finished in cc

pub returns-clause-writing : goal.returns-clause-writing
returns-clause-writing c = λ finished. let wrong : written word ≡ rests = last_stage-AreFinished 0 _ finished in cc
