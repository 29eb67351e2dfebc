use Rattle.std.proofs.Common.{sym, ◌∙◌, ap, ◌≡◌, ◌/◌, ◌%◌, slice_index}
use Rattle.guest_core.proofs.KeptOn.{right_set}
use Rattle.guest_core.proofs.pages.Pages.keep.Goals as goal

pub returns-clause-right : goal.returns-clause-right
returns-clause-right g c = λ program each right.
    let pages = c.turn_to.new.self in
    let number : slice_index pages.numbers (c.args.addr / 1024 % 16) ≡ c.args.addr / 1024 = ap (slice_index pages.numbers) (sym c.slot_of-slot.ensures) ∙ c.turn_to.ensures.number in
    rw c.slot_of-slot.ensures (right_set g.R.Ready.is_met g.R.Ready.found g.R.Ready.instr g.R.Ready.is_right program pages.numbers pages.kept.items c.args.addr c.args.ready
    (sym pages.kept.ok.0 ∙ c.turn_to.ensures.many) c.requires.aligned number (c.turn_to.ensures.right program each) right)
