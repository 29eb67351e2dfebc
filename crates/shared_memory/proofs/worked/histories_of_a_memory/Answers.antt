-- A load-exclusive that has begun is one of an operation.
use Rattle.std.proofs.Common.{◌<◌, true, [], ◌∷◌, refl, arith}
use Rattle.history.specs.Operation.{load_watched}
use Rattle.history.specs.Started.{starts_of}
use Rattle.history.specs.Worked.{word}
use Rattle.history.specs.declared.entry.Entry.TheVariants.{Read, Watch, Start}
use Rattle.history.proofs.SmallHistories.{not_begun}
use Rattle.shared_memory.proofs.SmallHistories.{legal_from, nothing, start_legal, third_legal}
use Rattle.shared_memory.proofs.worked.histories_of_a_memory.Goals as goal

pub returns-clause-known : goal.returns-clause-known
returns-clause-known c = legal_from (Watch 1 word ∷ []) refl refl tt (nothing 0)
    (record { missing = Read 1 word 0 true ∷ []; finished = record { operations = load_watched word 0 ∷ []; are = refl } })

pub returns-clause-unknown_but_legal : goal.returns-clause-unknown_but_legal
returns-clause-unknown_but_legal c = third_legal

pub returns-clause-not_legal : goal.returns-clause-not_legal
returns-clause-not_legal c = λ from.
    let whole = (from.legal.operations 0).finished in
    not_begun 0 word 9 _ _ whole.operations whole.are

pub returns-clause-none_spare : goal.returns-clause-none_spare
returns-clause-none_spare c = λ legal. let none : starts_of 0 [] < 0 = (legal.born [] (Start 0 2 4096 7) [] refl).1 in omega arith

pub returns-clause-none_spare_but_legal : goal.returns-clause-none_spare_but_legal
returns-clause-none_spare_but_legal c = start_legal
