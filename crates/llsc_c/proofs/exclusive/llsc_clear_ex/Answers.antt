-- The handle before and after a CLREX.
use Rattle.std.proofs.Common.{rules, sym, ◌∙◌}
use Rattle.llsc_c.proofs.Cases.{misuse-not_done}
use Rattle.llsc_c.proofs.exclusive.llsc_clear_ex.Goals as goal

pub returns-in-Ok-clause-cleared : goal.returns-in-Ok-clause-cleared
returns-in-Ok-clause-cleared c z = record { from = c.deref_mut.result.now; to = c.clear_ex.new.self; was = search rules; is = search rules; alike = search rules; does = search rules }

pub returns-in-Err-clause-cleared : goal.returns-in-Err-clause-cleared
returns-in-Err-clause-cleared c z = absurd (misuse-not_done c.in-Err.misuse (sym c.answer_to.ensures ∙ z))
