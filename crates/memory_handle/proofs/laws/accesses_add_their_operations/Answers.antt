use Rattle.std.proofs.Common.{◌≡◌, true, false, subst}
use Rattle.llsc_base.specs.declared.access.Place.{Place}
use Rattle.history.specs.Operation.{Operation, entries_of_operation, fail, load, load_missed, load_watched, store}
use Rattle.history.specs.Worked.{word}
use Rattle.memory_handle.specs.Accesses.{Adds, Makes}
use Rattle.memory_handle.specs.declared.handles.Handle.{Handle}
use Rattle.memory_handle.proofs.Placed.{is_word}
use Rattle.memory_handle.proofs.laws.accesses_add_their_operations.Goals as goal

-- what is added at a place that is the word is added at the word
at_word : (operation : Place → Operation) (place : Place) (old new : Handle) → place ≡ word → Adds (entries_of_operation old.first (operation place)) old new
    → Adds (entries_of_operation old.first (operation word)) old new
at_word operation place old new is adds = subst (λ p. Adds (entries_of_operation old.first (operation p)) old new) is adds

made : (operation : Place → Operation) (old new : Handle) → Makes 8 4 operation old new → Adds (entries_of_operation old.first (operation word)) old new
made operation old new makes = at_word operation makes.place old new (is_word makes.place makes.place_is) makes.sees

pub returns-clause-load : goal.returns-clause-load
returns-clause-load c = λ value old new makes. made (λ place. load place value) old new makes

pub returns-clause-reserved : goal.returns-clause-reserved
returns-clause-reserved c = λ value old new makes. made (λ place. load_watched place value) old new makes

pub returns-clause-missed : goal.returns-clause-missed
returns-clause-missed c = λ value old new makes. made (λ place. load_missed place value) old new makes

pub returns-clause-stored : goal.returns-clause-stored
returns-clause-stored c = λ value old new stored.
    at_word (λ place. store place value false) stored.place old new (is_word stored.place stored.place_is) stored.sees

pub returns-clause-stored_exclusively : goal.returns-clause-stored_exclusively
returns-clause-stored_exclusively c = λ value old new stored.
    at_word (λ place. store place value true) stored.place old new (is_word stored.place stored.place_is) stored.sees

pub returns-clause-failed : goal.returns-clause-failed
returns-clause-failed c = λ value old new failed.
    (failed.cause, at_word (λ place. fail place value failed.cause) failed.place old new (is_word failed.place failed.place_is) failed.sees)

pub returns-clause-met_a_write : goal.returns-clause-met_a_write
returns-clause-met_a_write c = λ old new met. met.sees

pub returns-clause-found_spent : goal.returns-clause-found_spent
returns-clause-found_spent c = λ old new spent. spent.sees
