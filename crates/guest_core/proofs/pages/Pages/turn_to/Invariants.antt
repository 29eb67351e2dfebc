-- What is cleared so far.
use Rattle.std.proofs.Common.{◌≡◌, ◌+◌, ◌*◌, length}
use Rattle.guest_core.proofs.KeptOn.{AreAsBefore}
use Rattle.guest_core.proofs.pages.Pages.turn_to.Given as goal

abbrev pub invariant-loop-place : goal.invariant-loop-place
invariant-loop-place g l = record {
  numbers : l.self.numbers ≡ l.fn.self.numbers;
  many : length l.self.kept.items ≡ 4112;
  before : AreAsBefore g.R.Ready.is_met l.fn.self.kept.items l.self.kept.items (l.slot * 257) (l.slot * 257 + l.place);
}
