use Rattle.std.proofs.Common.{◌≡◌, ◌∙◌, ◌/◌, refl, sym, arith, rules, slice_index}
use Rattle.guest_core.proofs.KeptOn.{part_ends, part_right}
use Rattle.guest_core.proofs.pages.Pages.from.Goals as goal

pub returns-clause-right : goal.returns-clause-right
returns-clause-right g c = λ program each.
    let pages = c.args.self.now in
    let known : slice_index pages.numbers c.slot_of-slot.result ≡ c.args.addr / 1024 = search rules in
    rw c.deref.ensures.value (part_right g.R.Ready.is_met g.R.Ready.found g.R.Ready.instr g.R.Ready.is_right program pages.numbers pages.kept.items c.args.addr c.slot_of-slot.result _
    (sym pages.kept.ok.0 ∙ c.requires.many) each c.slot_of-slot.ensures refl (omega arith) c.requires.aligned known)

pub returns-clause-ends : goal.returns-clause-ends
returns-clause-ends g c = λ program each.
    let pages = c.args.self.now in
    rw c.deref.ensures.value (part_ends g.R.Ready.is_met g.R.Ready.found g.R.Ready.instr g.R.Ready.is_right program pages.numbers pages.kept.items c.args.addr c.slot_of-slot.result _
    (sym pages.kept.ok.0 ∙ c.requires.many) each c.slot_of-slot.ensures refl)
