use Rattle.std.proofs.Common.{◌≡◌, refl, sym, subst, ◌∙◌, rules}
use Rattle.history.specs.declared.entry.Deed.TheVariants as deed
use Rattle.run_explainer.proofs.Since.{IsQuiet, quiet_keeps, reservation_more}
use Rattle.run_explainer.proofs.reservations.see.Goals as goal

pub returns-in-Load-clause-seen : goal.returns-in-Load-clause-seen
returns-in-Load-clause-seen c seen knows thread other known =
    let granule = c.args.granule in
    let event = c.args.event.now in
    let is : event.access.deed ≡ deed.Load = search rules in
    let quiet : IsQuiet event.access.deed = subst IsQuiet (sym is) (record { loads = refl; writes = refl; ends = refl }) in
    knows thread other known ∙ sym (reservation_more granule thread seen event ∙ quiet_keeps granule thread _ event quiet)
