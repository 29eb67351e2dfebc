use Rattle.std.proofs.Common.{ap, sym, ◌∙◌}
use Rattle.llsc_base.specs.declared.outside.Ask.TheVariants.{Store}
use Rattle.llsc_base.specs.Effects.{completes}
use Rattle.guest_core.specs.inner.Asking.{asked_first}
use Rattle.rv32_guest.specs.Accesses.{place_of}
use Rattle.rv32_guest.proofs.CarriedOn.{served_on}
use Rattle.rv32_guest.proofs.registers.Registers.carry_store.Goals as goal

pub returns-clause-carried : goal.returns-clause-carried
returns-clause-carried g c =
    served_on c.args.image.now (Store c.place.result c.stored_part.result) c.in-Some._reply (sym (ap (λ p. asked_first c.args.image.now (Store p c.stored_part.result)) c.place.ensures ∙ ap (λ v. asked_first c.args.image.now (Store (place_of c.args.size c.args.addr) v)) c.stored_part.ensures)) c.in-Some.ensures.passes c.in-Some.ensures.replied
    (sym (ap completes c.advance.ensures))
