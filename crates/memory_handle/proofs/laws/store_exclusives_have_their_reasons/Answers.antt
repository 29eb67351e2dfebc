use Rattle.std.proofs.Common.{subst}
use Rattle.history.specs.declared.entry.Entry.TheVariants.{Begin}
use Rattle.version_rule.specs.Exact.{IsUndisturbed}
use Rattle.version_memory.specs.Exact.{HasFailedAt}
use Rattle.version_memory.specs.Stands.{Stands}
use Rattle.memory_handle.specs.Handles.{handle_origin, handle_seen}
use Rattle.memory_handle.proofs.Placed.{is_word}
use Rattle.memory_handle.proofs.laws.store_exclusives_have_their_reasons.Goals as goal

pub returns-clause-stored : goal.returns-clause-stored
returns-clause-stored c = λ value old new stored.
    subst (λ p. Stands (IsUndisturbed (handle_origin old).size old.first p) (Begin old.first p) (handle_seen old) (handle_seen new))
    (is_word stored.place stored.place_is) stored.exact

pub returns-clause-failed : goal.returns-clause-failed
returns-clause-failed c = λ value old new failed.
    subst (λ p. HasFailedAt (handle_origin old).size old.first p value (handle_seen old) (handle_seen new))
    (is_word failed.place failed.place_is) failed.exact
