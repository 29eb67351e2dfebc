use Rattle.std.proofs.Common.{subst}
use Rattle.history.specs.declared.entry.Entry.TheVariants.{Begin}
use Rattle.version_rule.specs.Exact.{IsAtLimit}
use Rattle.version_memory.specs.Exact.{IsContended}
use Rattle.version_memory.specs.Stands.{HasRoom}
use Rattle.memory_handle.specs.Handles.{handle_origin, handle_seen}
use Rattle.memory_handle.proofs.Placed.{is_word}
use Rattle.memory_handle.proofs.laws.stores_have_their_reasons.Goals as goal

pub returns-clause-stored : goal.returns-clause-stored
returns-clause-stored c = λ value old new stored.
    subst (λ p. HasRoom (handle_origin old).size p (Begin old.first p) (handle_seen old) (handle_seen new)) (is_word stored.place stored.place_is) stored.room

pub returns-clause-met_a_write : goal.returns-clause-met_a_write
returns-clause-met_a_write c = λ old new met.
    subst (λ p. IsContended (handle_origin old).size p (handle_seen old) (handle_seen new)) (is_word met.place met.place_is) met.contended

pub returns-clause-found_spent : goal.returns-clause-found_spent
returns-clause-found_spent c = λ old new found.
    subst (λ p. IsAtLimit (handle_origin old).size p (handle_seen new)) (is_word found.place found.place_is) found.spent
