-- What is missing, and the operations with it.
use Rattle.std.proofs.Common.{true, false, [], ◌∷◌, refl}
use Rattle.history.specs.Operation.{load_watched, load_missed, store, clear}
use Rattle.history.specs.Worked.{word}
use Rattle.history.specs.declared.entry.Entry.TheVariants.{Read, Write, End}
use Rattle.history.proofs.worked_operations.unfinished_operations.Goals as goal

pub returns-clause-watching : goal.returns-clause-watching
returns-clause-watching c = record { missing = Read 0 word 0 true ∷ []; finished = record { operations = clear ∷ load_watched word 0 ∷ []; are = refl } }

pub returns-clause-missing : goal.returns-clause-missing
returns-clause-missing c = record { missing = Read 0 word 0 true ∷ []; finished = record { operations = load_missed word 0 ∷ []; are = refl } }

pub returns-clause-begun : goal.returns-clause-begun
returns-clause-begun c = record {
  missing = Write 0 word 5 false ∷ End 0 word ∷ [];
  finished = record { operations = store word 5 false ∷ []; are = refl };
}

pub returns-clause-written : goal.returns-clause-written
returns-clause-written c = record { missing = End 0 word ∷ []; finished = record { operations = store word 5 false ∷ []; are = refl } }
