-- What was added, and that the whole is legal or isn't.
use Rattle.std.proofs.Common.{◌≡◌, false, true, [], ◌∷◌, lit<, refl}
use Rattle.history.specs.Operation.{clear, load_watched, store}
use Rattle.history.specs.Standing.{begun, rests}
use Rattle.history.specs.Worked.{word}
use Rattle.history.specs.declared.entry.Entry.TheVariants.{Begin, Clear, End, Read, Watch, Write}
use Rattle.history.proofs.Operations.{AreStaged-AreOperations}
use Rattle.history.proofs.SmallMemory.{plain, sound_word}
use Rattle.shared_memory.proofs.SmallHistories.{legal_from, nothing}
use Rattle.shared_memory.proofs.worked.what_is_seen.Goals as goal

pub returns-clause-own : goal.returns-clause-own
returns-clause-own c = record {
  added = Clear 1 ∷ Clear 0 ∷ [];
  longer = refl;
  mine = refl;
  legal = legal_from (Clear 0 ∷ Clear 1 ∷ Clear 0 ∷ []) refl refl (lit< tt, (lit< tt, (lit< tt, tt)))
      (record { missing = []; finished = record { operations = clear ∷ clear ∷ []; are = refl } })
      (record { missing = []; finished = record { operations = clear ∷ []; are = refl } });
}

pub returns-clause-of_others : goal.returns-clause-of_others
returns-clause-of_others c = record {
  added = Clear 1 ∷ [];
  longer = refl;
  mine = refl;
  legal = legal_from (Clear 0 ∷ Clear 1 ∷ []) refl refl (lit< tt, (lit< tt, tt))
      (record { missing = []; finished = record { operations = clear ∷ []; are = refl } })
      (record { missing = []; finished = record { operations = clear ∷ []; are = refl } });
}

pub returns-clause-mark : goal.returns-clause-mark
returns-clause-mark c = record {
  added = Watch 0 word ∷ [];
  longer = refl;
  mine = refl;
  legal = legal_from (Watch 0 word ∷ []) refl refl tt
      (record { missing = Read 0 word 0 true ∷ []; finished = record { operations = load_watched word 0 ∷ []; are = refl } }) (nothing 1);
}

pub returns-clause-begun_before : goal.returns-clause-begun_before
returns-clause-begun_before c = record {
  added = Write 0 word 5 false ∷ [];
  longer = refl;
  mine = refl;
  legal = legal_from (Begin 0 word ∷ Write 0 word 5 false ∷ []) refl refl ((sound_word 0 5 (lit< tt) (lit< tt), plain _ _), tt)
      (record { missing = End 0 word ∷ []; finished = record { operations = store word 5 false ∷ []; are = refl } }) (nothing 1);
}

pub returns-clause-not_legal_as_a_whole : goal.returns-clause-not_legal_as_a_whole
returns-clause-not_legal_as_a_whole c = λ sees.
    let wrong : begun word ≡ rests = (AreStaged-AreOperations 0 _ (sees.legal.legal.operations 0)).1.0 in cc
