use Rattle.std.proofs.Common.{sym, ◌∙◌}
use Rattle.std.proofs.lemmas.Bool.{false≢true}
use Rattle.guest_core.proofs.pages.Pages.new.Goals as goal

pub returns-clause-right : goal.returns-clause-right
returns-clause-right g c = λ program at d below met. absurd (false≢true (sym (c.loop-at.invariant.1 at d below) ∙ met))
