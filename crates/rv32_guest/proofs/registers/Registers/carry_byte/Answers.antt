use Rattle.std.proofs.Common.{ap, sym, ◌∙◌}
use Rattle.llsc_base.specs.declared.outside.Ask.TheVariants.{Load}
use Rattle.llsc_base.specs.Effects.{completes}
use Rattle.guest_core.specs.inner.Asking.{asked_first}
use Rattle.rv32_guest.specs.State.{advanced, with_register}
use Rattle.rv32_guest.proofs.CarriedOn.{served_on}
use Rattle.rv32_guest.proofs.registers.Registers.carry_byte.Goals as goal

pub returns-clause-carried : goal.returns-clause-carried
returns-clause-carried g c =
    served_on c.args.image.now (Load c.place.result) c.in-Some.reply (sym (ap (λ p. asked_first c.args.image.now (Load p)) c.place.ensures)) c.in-Some.ensures.passes c.in-Some.ensures.replied
    (sym (ap completes (c.advance_with.ensures ∙ ap (λ v. advanced (with_register c.args.self.now c.args.rd v)) c.loaded_byte.ensures)))
