-- The handle before and after a load.
use Rattle.std.proofs.Common.{rules, sym, ◌∙◌}
use Rattle.llsc_c.proofs.Cases.{misuse-not_done}
use Rattle.llsc_c.proofs.plain.llsc_load.Goals as goal

pub returns-in-Ok-clause-loaded : goal.returns-in-Ok-clause-loaded
returns-in-Ok-clause-loaded c z = record { from = c.deref_mut.result.now; to = c.load.new.self; was = search rules; is = search rules; alike = search rules; does = search rules }

pub returns-in-Err-clause-loaded : goal.returns-in-Err-clause-loaded
returns-in-Err-clause-loaded c z = absurd (misuse-not_done c.in-Err.misuse (sym c.answer_to.ensures ∙ z))
