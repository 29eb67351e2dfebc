-- The handle before and after a store-exclusive that has stored, and one that has failed.
use Rattle.std.proofs.Common.{rules, sym, ◌∙◌}
use Rattle.llsc_c.proofs.Cases.{flag-done, flag-failed, misuse-not_done}
use Rattle.llsc_c.proofs.exclusive.llsc_store_ex.Goals as goal

pub returns-in-Ok-clause-stored : goal.returns-in-Ok-clause-stored
returns-in-Ok-clause-stored c z zero =
    let told = flag-done c.in-Ok.done c.from.result _ c.from.ensures zero c.in-Ok.ensures.stored in
    record { from = c.deref_mut.result.now; to = c.store_ex.new.self; was = search rules; is = search rules; alike = search rules; does = told }

pub returns-in-Ok-clause-failed : goal.returns-in-Ok-clause-failed
returns-in-Ok-clause-failed c z other =
    let told = flag-failed c.in-Ok.done c.from.result _ c.from.ensures other c.in-Ok.ensures.failed in
    record { from = c.deref_mut.result.now; to = c.store_ex.new.self; was = search rules; is = search rules; alike = search rules; does = told }

pub returns-in-Err-clause-stored : goal.returns-in-Err-clause-stored
returns-in-Err-clause-stored c z = absurd (misuse-not_done c.in-Err.misuse (sym c.answer_to.ensures ∙ z))

pub returns-in-Err-clause-failed : goal.returns-in-Err-clause-failed
returns-in-Err-clause-failed c z = absurd (misuse-not_done c.in-Err.misuse (sym c.answer_to.ensures ∙ z))

pub returns-in-Err-clause-flag : goal.returns-in-Err-clause-flag
returns-in-Err-clause-flag c z = absurd (misuse-not_done c.in-Err.misuse (sym c.answer_to.ensures ∙ z))
