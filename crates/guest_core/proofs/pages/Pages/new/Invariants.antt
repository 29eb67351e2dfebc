use Rattle.std.proofs.Common.{◌≡◌, false, All, vec_len}
use Rattle.guest_core.proofs.pages.Pages.new.Given as goal

abbrev pub invariant-loop-at : goal.invariant-loop-at
invariant-loop-at g l = (vec_len l.kept ≡ l._at) × All (λ r. g.R.Ready.is_met r ≡ false) l.kept.items
