-- The handle before and after a load-exclusive.
use Rattle.std.proofs.Common.{rules, sym, ◌∙◌}
use Rattle.llsc_c.proofs.Cases.{misuse-not_done}
use Rattle.llsc_c.proofs.exclusive.llsc_load_ex.Goals as goal

pub returns-in-Ok-clause-loaded : goal.returns-in-Ok-clause-loaded
returns-in-Ok-clause-loaded c z = record { from = c.deref_mut.result.now; to = c.load_ex.new.self; was = search rules; is = search rules; alike = search rules; does = search rules }

pub returns-in-Err-clause-loaded : goal.returns-in-Err-clause-loaded
returns-in-Err-clause-loaded c z = absurd (misuse-not_done c.in-Err.misuse (sym c.answer_to.ensures ∙ z))

pub returns-in-Err-clause-fits : goal.returns-in-Err-clause-fits
returns-in-Err-clause-fits c z = absurd (misuse-not_done c.in-Err.misuse (sym c.answer_to.ensures ∙ z))
